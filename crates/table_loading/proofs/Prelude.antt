-- What the proofs of this crate name of definitions, of laws and of std, page by page.
pub use Rattle.std.proofs.Common.{All, Bool, Contains, Err, List, [], ap, append-nil, arith, cond, eq-eqb, get_or, inl, inr, length, map, ne_eqb, refl, subst, suc, sym, take, zero, ℕ, ◌++◌, ◌+◌, ◌<◌, ◌==◌, ◌∙◌, ◌∷◌, ◌≡◌, ◌≤◌}
pub use Rattle.std.proofs.lemmas.Bool.Decides.{eqb_tells, nat_tests}
pub use Rattle.std.proofs.lemmas.List.{length-map, map_push}
pub use Rattle.std.proofs.lemmas.List.Elements.{All-contains, All-from_recursion, filter_more}
pub use Rattle.std.proofs.lemmas.Result.{err_from_is_err_and}
pub use Rattle.std.specs.List.{AllByRecursion, AllZip}
pub use Rattle.loaded_tables.specs.Prelude.{AreLawful, AreNamed, IsNamed, patches_in}
pub use Rattle.loaded_tables.specs.declared.tables.LoadedTables.{LoadedTables}
pub use Rattle.table_soundness.specs.Faults.{IsFault}
pub use Rattle.array_spec.specs.Prelude.{AnyFact, ArePatches, AreSound, BootRecord, ByTagFrom, Geometry, IsFact, IsPatch, IsRecordOf, Patch, PatchIsShown, PatchStands, PatchesStand, Table, View, all_append, all_append_left, all_patches, any_key, places_of_part, table_tag}
pub use Rattle.world.specs.Prelude.{IsShelf, Shelved, continues_refl, continues_trans, geometry_of, nothing_written, writes_then}
pub use Rattle.patch_io.specs.Prelude.{AreFactsOf, HaveKey, ShowsNoOtherOfPatch, ShowsPatch, StripesStandOf}
pub use Rattle.table_loading.specs.Faults.{IsFaultIn, IsLostIn, IsTablesFault, fault_of}
pub use Rattle.table_loading.specs.Loading.{IsLoaded, OnlyReads, ShowsDrives, ShowsNoOtherDrive, StripesStandOfAll, of_tag}
pub use Rattle.table_loading.specs.declared.fault.TablesFault.{TablesFault}
pub use Rattle.table_loading.specs.declared.fault.TablesFault.TheVariants.{BadPatch, Lost, Memory, Unsound}
