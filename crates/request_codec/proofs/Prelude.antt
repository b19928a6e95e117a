-- What the proofs of this crate name of definitions, of laws and of std, page by page.
pub use Rattle.std.proofs.Common.{Bool, Err, IfSome, List, None, Ok, Option, Result, Some, [], ap, append-nil, append_assoc, arith, bytes_eq, codes, cond, drop, drop-drop, drop_at, eqb, false, fold, get_or, inl, inr, le-ltb, leb, leb-true, length, length-append, length-drop, length-take, length-take-le, lt-ltb, min, mul-le-mul_right, mul_assoc, mul_comm, not, pow-suc, refl, subst, suc, sym, take, take-add, take-append-drop, take_at, true, vec_capacity, zero, ℕ, ◌&&◌, ◌*◌, ◌++◌, ◌+◌, ◌-◌, ◌<◌, ◌^◌, ◌∙◌, ◌∷◌, ◌≡◌, ◌≤◌, ◌⊎◌}
pub use Rattle.std.proofs.Math.Nat.{pow-le-pow_right}
pub use Rattle.std.proofs.lemmas.List.{append_cancel_left, drop_more, take_more, take_rest}
pub use Rattle.std.proofs.lemmas.Result.{err_from_is_err_and}
pub use Rattle.std.specs.List.{after_first, before_first, list_all, position_or_len}
pub use Rattle.world.specs.Prelude.{Asked, Cut, REQUEST_SECTORS, Request, SECTOR_BYTES, bare_form, byte_of, copy_form, count_of, create_form, data_count, digits_number, fill_form, first_item, is_line_end, is_name, is_number, line_item, line_request, line_text, merge_form, name_form, name_of, new_form, number_form, number_in, number_of, numbers_text, request_of, sectors_in, sectors_text, span_form, step_of, table_of, when, words, ◌>>=◌}
pub use Rattle.line_input.specs.Prelude.{Ahead, Asks, Stops, Tells, Totals, Went, asks-consumed, asks-failed, asks-on, asks-then, asks-well, budget, data-failed, data-overrun, line-failed, line-overrun, sectors-failed, sectors-overrun, tells-same, well, went-on}
pub use Rattle.request_codec.specs.Spelled.{IsSpelledRequest, IsSpelledSpan}
pub use Rattle.request_codec.specs.Writing.{Extends, Goes}
