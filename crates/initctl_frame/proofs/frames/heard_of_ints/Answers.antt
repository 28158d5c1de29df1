use Rattle.initctl_frame.proofs.Words.{arith, ◌≡◌, ◌∙◌, ap, sym, ℤ, pos, ints, to_z-of_z, heard_of_ints}
use Rattle.initctl_frame.proofs.frames.heard_of_ints.Goals as goal

pub returns : goal.returns
returns c =
    let command_fits = c.ranges.command in
    let runlevel_fits = c.ranges.runlevel in
    let sleeptime_fits = c.ranges.sleeptime in
    let good : c.args.magic ≡ pos 0x03091969 = omega (arith, ints) in
    let says = simp to_z-of_z at c.heard_of_command.ensures in
    says ∙ ap (λ (magic : ℤ). heard_of_ints magic c.args.command c.args.runlevel c.args.sleeptime) (sym good)
