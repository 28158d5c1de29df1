use Rattle.initctl_frame.proofs.Words.{rules, ◌∙◌, w32, to_z-of_z}
use Rattle.std.specs.Int.RustNames.{FitsSigned}
use Rattle.initctl_frame.proofs.frames.decode_front.Goals as goal

pub returns : goal.returns
returns c =
    let magic_fits : FitsSigned w32 c.int_at.result = search rules in
    let command_fits : FitsSigned w32 c.int_at-2.result = search rules in
    let runlevel_fits : FitsSigned w32 c.int_at-3.result = search rules in
    let sleeptime_fits : FitsSigned w32 c.int_at-4.result = search rules in
    let says = simp to_z-of_z at c.heard_of_ints.ensures in
    says ∙ rw (c.int_at.ensures, c.int_at-2.ensures, c.int_at-3.ensures, c.int_at-4.ensures)
