-- Names that the proofs of this crate share.
pub use Rattle.std.proofs.Common.{◌≡◌, ◌∙◌, ℕ, ℤ, zero, suc, ◌+◌, ◌-◌, ◌*◌, ◌/◌, ◌<◌, ◌≤◌, List, [], ◌∷◌, ◌++◌, length}
pub use Rattle.std.proofs.Common.{take, drop, map, get_or, ap, ap₂, sym, refl, arith, append_assoc, append-nil}
pub use Rattle.std.proofs.Common.{length-append, length-drop, length-take-le, ⊎_elim, take-append-drop, w32, pos, ◌^◌}
pub use Rattle.std.proofs.Common.{rules, subst, Option, lit≤}
pub use Rattle.std.specs.Prelude.{All, flat_map, slice_set}
pub use Rattle.std.proofs.lemmas.List.{map-append, take-append-le, drop-append-le, drop-drop, take_all, take-take}
pub use Rattle.std.proofs.lemmas.List.{get_or-drop, get_or-take, length-take, take_rest}
pub use Rattle.std.proofs.Math.Seq.{take-append-add, drop-cons, set-append_seam, take-add}
pub use Rattle.std.specs.Int.{cast_signed, from_le_bytes}
pub use Rattle.initctl_frame.specs.Frames.{heard_of, heard_of_ints, int_at, block_of_ints, heard_of_runlevel}
pub use Rattle.initctl_frame.specs.Frames.{seconds_of, meaning_of}
pub use Rattle.initctl_frame.specs.Blocks.{blocks_of, requests_in_blocks, remainder_of, parts, ReaderAfter}
pub use Rattle.initctl_frame.specs.Blocks.{PartialBlock}
pub use Rattle.std.proofs.lemmas.Int.{to_z_pos, to_z-of_z, ints}
pub use Rattle.initctl_frame.specs.Signs.{heard_of_sign}
pub use Rattle.initctl_frame.specs.declared.requests.HeardRequest.{HeardRequest}
pub use Rattle.initctl_frame.specs.Pieces.{StoresRequests, filled}
