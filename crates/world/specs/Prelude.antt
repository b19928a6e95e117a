-- What crates above name of this one and of those below it, page by page.
pub use Rattle.pur_base.specs.Bytes.{IsBytes, IsBytesOf, bytes_at, padded, zeros}
pub use Rattle.pur_base.specs.Commands.{Command}
pub use Rattle.pur_base.specs.Devices.{Image, View, drive, nvram}
pub use Rattle.pur_base.specs.Gates.{is_open}
pub use Rattle.pur_base.specs.Grammar.{Asked, Cut, Syntax, bare_form, byte_of, copy_form, count_of, create_form, data_count, digits_number, fill_form, first_item, is_in_force, is_line_end, is_number, is_whole, line_item, line_request, merge_form, name_form, name_of, new_form, number_form, number_in, number_of, request_of, sectors_in, span_form, step_of, table_of, when, words, ◌>>=◌}
pub use Rattle.pur_base.specs.Names.{is_name}
pub use Rattle.pur_base.specs.Replies.{line_text, numbers_text, sectors_text}
pub use Rattle.pur_base.specs.declared.device.Device.{Device}
pub use Rattle.pur_base.specs.declared.device.Device.TheVariants.{Drive, Nv}
pub use Rattle.pur_base.specs.declared.device.DriveId.{DriveId}
pub use Rattle.pur_base.specs.declared.device.NvId.{NvId}
pub use Rattle.pur_base.specs.declared.limits.TheConstants.{BOOT_UNITS, INPUT_BYTES, LINE_BYTES, NAME_BYTES, NUMBER_DIGITS, NVRAM_BYTES, NVRAM_DEVICES, REQUEST_SECTORS, SECTOR_BYTES, SEGMENT_SHARDS, SLOTS_MAX, UNIT_BYTES}
pub use Rattle.pur_base.specs.declared.place.Place.{Place}
pub use Rattle.pur_base.specs.declared.request.Request.{Request}
pub use Rattle.pur_base.specs.lemmas.Devices.{drives_apart, same_device}
pub use Rattle.pur_base.specs.lemmas.Lines.{IsOpen, after-open, after-past, before-past, more-of-line, open-append, open-nil, spent, whole-line}
pub use Rattle.world.specs.Counts.{Counts, Rises, capped}
pub use Rattle.world.specs.Losing.{IsLater, geometry_of, has_failed, has_lost_writes, has_risen, losing, missing_if}
pub use Rattle.world.specs.Ran.{Only, Ran, Runs}
pub use Rattle.world.specs.Shelf.{Continues, Disk, Elapses, IsCountedBy, IsFrontOf, IsIn, IsInSome, IsOf, IsQuiet, IsQuietBy, IsSame, IsShelf, Leaves, LeavesOnly, MayLeave, MayStop, MayStopGiving, MayStopTaking, OthersStay, OutputOnly, ReadCounts, Shelved, Stop, TakenOnly, WasSynced, WasWritten, WriteCounts, Written, WrittenIfOk, size_of}
pub use Rattle.world.specs.Streams.{IsPreorder, SameStream, Streamed}
pub use Rattle.world.specs.Untold.{untold, untold_stream}
pub use Rattle.world.specs.Writes.{ChangesOnly, LeavesBut, MayLeaveBut, OneRange, WritesOnly}
pub use Rattle.world.specs.lemmas.Bytes.{same_part}
pub use Rattle.world.specs.lemmas.Moments.{continues_refl, continues_trans, front_refl, leaves_giving, leaves_quiet, leaves_taking, leaves_then, leaves_weaker, quiet_now, quiet_refl, started, then_run, weaker}
pub use Rattle.world.specs.lemmas.Ran.{ran_more, ran_none, ran_sync, ran_then, ran_write, runs_more, runs_read}
pub use Rattle.world.specs.lemmas.Rests.{no_output, nothing_taken, output_then, same_stream, stream_then, taken_then}
pub use Rattle.world.specs.lemmas.Rising.{not_risen, not_risen_before, not_risen_since, risen_on_way, rose_before, rose_since}
pub use Rattle.world.specs.lemmas.Stopped.{as_read, none_dirty}
pub use Rattle.world.specs.lemmas.Writes.{but_then, counted_then, counts_grow, may_leave_but, nothing_written, read_writes, unchanged, write_writes, writes_more, writes_then}
