-- What the proofs of this crate name of definitions, of laws and of std, page by page.
pub use Rattle.std.proofs.Common.{List, Ok, ap, append-nil, append_assoc, arith, length, length-append, refl, rules, subst, sym, true, ℕ, ◌++◌, ◌-◌, ◌<◌, ◌^◌, ◌∙◌, ◌≡◌, ◌≤◌}
pub use Rattle.std.proofs.lemmas.Bool.Decides.{nat_tests}
pub use Rattle.std.proofs.lemmas.List.{length-replicate, take-replicate}
pub use Rattle.std.proofs.lemmas.List.Elements.{recursion_from_All}
pub use Rattle.pur_base.specs.Prelude.{FitsBytes, is_name, length-places_bytes, padded, places_bytes, same_front, same_places, same_u16, same_u32, same_u64, same_u8, tag_of, u16, u32, u64, u8, zeros, zeros_are}
pub use Rattle.pur_base.specs.declared.facts.AnyFact.{AnyFact}
pub use Rattle.pur_base.specs.declared.facts.MediumFact.{MediumFact}
pub use Rattle.pur_base.specs.declared.facts.ObjectFact.{ObjectFact}
pub use Rattle.pur_base.specs.declared.facts.SegmentFact.{SegmentFact}
pub use Rattle.pur_base.specs.declared.limits.TheConstants.{NAME_BYTES, SEGMENT_SHARDS}
pub use Rattle.pur_base.specs.declared.request.Table.{Table}
pub use Rattle.fact_codec.specs.Fact.{Decodes, FitsTarget, IsFact, IsLawful, IsStatement, object_code, target_bytes, target_code, value_bytes}
unfoldable pub use Rattle.fact_codec.specs.Fact.{fact_bytes}
pub use Rattle.fact_codec.specs.Heads.{FitsHead, head_bytes, head_of}
pub use Rattle.fact_codec.specs.Values.{IsHeaded, IsSpelled, IsValueOf, put_bytes}
pub use Rattle.fact_codec.specs.declared.head.Head.{Head}
pub use Rattle.fact_codec.specs.declared.limits.TheConstants.{FACT_BYTES, VALUE_BYTES}
