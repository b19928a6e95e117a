-- What the proofs of this crate name of definitions, of laws and of std, page by page.
pub use Rattle.std.proofs.Common.{Bool, List, [], ap, append_assoc, arith, bit_xor, cond, drop, eq-eqb, eqb, ext_get_or, false, get_or, get_or-set_other, get_or-set_same, inl, inr, leb, length, length-append, length-drop, length-set, ltb, map, pow_mono, refl, replicate, set, slice_index, subst, suc, sym, take_all, true, w8, zero, ℕ, ◌%◌, ◌&&◌, ◌*◌, ◌++◌, ◌+◌, ◌-◌, ◌/◌, ◌<◌, ◌^◌, ◌||◌, ◌∙◌, ◌∷◌, ◌≡◌, ◌≢◌, ◌≤◌, ◌⊎◌}
pub use Rattle.std.proofs.lemmas.Bool.{cases_eq, cases_lt, false≢true}
pub use Rattle.std.proofs.lemmas.Bool.Decides.{nat_tests}
pub use Rattle.std.proofs.lemmas.Grind.{same_number_lists}
pub use Rattle.std.proofs.lemmas.List.{get_or-append_right, get_or_append_left}
pub use Rattle.std.proofs.lemmas.Simd.{Each1-all, Each1-from_get_or, Each1-get_or, Each1-zip2, Each2-splat, SwzOk, SwzOk-from_Each1, SwzOk-from_below, chunk-drop, get_or-chunk, get_or-put_chunk_above, get_or-put_chunk_at, get_or-put_chunk_below, get_or-replicate, get_or-sel_l, get_or-swz_l, get_or-swz_l_below, get_or-zip2, length-replicate, length-sel_l, length-swz_l, length-zip2, pick_l-range_with_len, pick_l_left, pick_l_whole, swz_l, tops_compared}
pub use Rattle.std.specs.List.{Contains, range_with_len}
pub use Rattle.parity72.specs.Field.{doubled}
unfoldable pub use Rattle.parity72.specs.Field.{power_of_two, times, times_bits}
pub use Rattle.parity72.specs.Parity.{IsCodeword, IsRead, byte_of, p_of, q_of, shard_of}
unfoldable pub use Rattle.parity72.specs.Parity.{sum_below}
pub use Rattle.parity72.specs.Recovery.{AgreesOutside, Encodes, Fixes, Restores, both_of, column_of, filled, second_of, weight_of, weighted, with_byte, with_data, with_data_and_q, with_pair, without}
