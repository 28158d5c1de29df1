use Rattle.inittab_lint.proofs.Words.{rules, ◌≡◌, ◌∷◌, ◌&&◌, true, false, not}
use Rattle.text_lines.specs.Lines.{cut}
use Rattle.inittab_lint.specs.Shell.{early_in, expands_early, in_commands, innermost, is_comment, is_deep, is_two}
use Rattle.inittab_lint.specs.Shell.{next_in, parts_after, shell_expands, starts_word}
use Rattle.inittab_lint.proofs.Reading.{not_so, read_early}
use Rattle.inittab_lint.proofs.shell.expands_early.Goals as goal

pub loop-byte-preserved : goal.loop-byte-preserved
loop-byte-preserved c =
    let parts = c.loop-byte.parts.items in
    let b = c.in-Some.byte.now in
    let text = c.in-Some.after.now in
    let rest : c.loop-byte.rest.now ≡ b ∷ text = search rules in
    let next = next_in text in
    let comment : is_comment (innermost parts) c.loop-byte.start b ≡ false = search rules in
    let no : (c.loop-byte.start && (in_commands (innermost parts) && shell_expands (cut 32 (b ∷ text)))) ≡ false =
    search rules in
    let deep : is_deep parts b next ≡ false =
    let shallow : true ≡ not (is_deep parts b next) = search rules in not_so _ shallow in
    let on : c.read_on.new.parts.items ≡ parts_after parts b next = search rules in
    let two : c.is_two-was_read.result ≡ is_two (innermost parts) b next = search rules in
    let starts : c.starts_word-start.result ≡ starts_word (innermost parts) b next = search rules in
    let here : early_in parts false c.loop-byte.start c.loop-byte.rest.now ≡ expands_early c.args.process.now =
    search rules in
    read_early parts c.read_on.new.parts.items c.args.process.now c.loop-byte.rest.now text c.loop-byte.start
    c.is_two-was_read.result c.starts_word-start.result b rest comment no deep on two starts here
