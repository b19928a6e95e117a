-- What the drives of an array's record show, and what its segments hold there.
use Rattle.std.specs.Prelude.{false, Some, None, slice_index_or, if◌then◌else◌}
use Rattle.session_spec.specs.Prelude.{View, Facts, Drive, Nv, Shelved, Contents, ContentsStand}
use Rattle.register.specs.declared.state.Register.{Register}
use Rattle.register.specs.Prelude.{drives_of}

-- the drives on which the record is in force, as reads give them
abbrev pub drives_view : Shelved → Register → View
drives_view shelf r (Drive d) = if slice_index_or (drives_of r) d.0 false then Some (shelf.disk (Drive d)).bytes else None
drives_view shelf r (Nv n) = None

-- each sector that was placed in a visible segment stands on them
abbrev pub SegmentsHold : Contents → Shelved → Register → Facts → Type 0
SegmentsHold contents shelf r facts = ContentsStand contents (drives_view shelf r) facts
