-- What is told of a shelf.
use Rattle.std.specs.Prelude.{◌≡◌}
use Rattle.session_spec.specs.Prelude.{Shelved}
use Rattle.shelf_look.specs.declared.looking.Looked.{Looked}
use Rattle.shelf_look.specs.Looking.{IsLook, end_of}
use Rattle.shelf_look.specs.declared.viewing.Told.{Told}

-- the status is that with which an opening of what the devices show would end, where no call fails
pub record IsTold (old new : Shelved) (t : Told) : Type 0 where
  pub looked : Looked
  pub look : IsLook old new looked
  pub status : t.status ≡ end_of looked
