use Rattle.std.proofs.Common.{rules, ◌≡◌, ◌++◌, codes}
use Rattle.init_words.proofs.Behind.{three_more}
use Rattle.host_messages.specs.LineFaults.{line_text, place_text}
use Rattle.host_messages.proofs.line_faults.add_fault.Goals as goal

pub returns : goal.returns
returns g c =
    let fault = c.args.fault.now in
    let position = place_text c.args.parts.now fault.part in
    let one : c.extend_from_slice.new.self.items ≡ c.args.text.now.items ++ codes "initd: inittab " = search rules in
    let two : c.add_place.new.text.items ≡ c.extend_from_slice.new.self.items ++ position = search rules in
    let three : c.extend_from_slice-2.new.self.items ≡ c.add_place.new.text.items ++ line_text fault.line fault.kind =
    search rules in
    three_more c.args.text.now.items (codes "initd: inittab ") position (line_text fault.line fault.kind)
    c.extend_from_slice.new.self.items c.add_place.new.text.items c.extend_from_slice-2.new.self.items one two three
