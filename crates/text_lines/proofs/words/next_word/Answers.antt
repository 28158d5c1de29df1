use Rattle.text_lines.proofs.CommonWords.{◌<◌, ◌≤◌, arith, length, length-drop, take_rest, skip_blanks}
use Rattle.std.proofs.lemmas.Grind.{common_steps}
use Rattle.text_lines.proofs.BlankLemmas.{words_of-none, words_of-next, word_length-some, length-skip_blanks}
use Rattle.text_lines.proofs.Utf8Lemmas.{skip_blanks-utf8, word-utf8}
use Rattle.text_lines.proofs.words.next_word.Goals as goal

pub returns-then-is_empty-clause-none : goal.returns-then-is_empty-clause-none
returns-then-is_empty-clause-none c = words_of-none c.args.text.now (grind (arith, common_steps))

pub returns-clause-some : goal.returns-clause-some
returns-clause-some c =
    let some : 0 < length (skip_blanks c.args.text.now) = grind (arith, common_steps) in
    rw take_rest
    (rw (c.word_length-end.ensures.value, c.without_blanks-rest.ensures) (words_of-next c.args.text.now some))

pub returns-clause-shorter : goal.returns-clause-shorter
returns-clause-shorter c =
    let some : 0 < length (skip_blanks c.args.text.now) = grind (arith, common_steps) in
    let word : 0 < c.word_length-end.result =
    rw (c.word_length-end.ensures.value, c.without_blanks-rest.ensures) (word_length-some c.args.text.now some) in
    let less : length c.without_blanks-rest.result.now ≤ length c.args.text.now =
    rw c.without_blanks-rest.ensures (length-skip_blanks c.args.text.now) in
    rw take_rest (omega (
      arith,
      length-drop c.word_length-end.result c.without_blanks-rest.result.now,
      word,
      less,
      c.word_length-end.ensures.within,
    ))

pub returns-clause-utf8 : goal.returns-clause-utf8
returns-clause-utf8 c = λ utf8.
    rw take_rest (rw (c.word_length-end.ensures.value, c.without_blanks-rest.ensures)
    (word-utf8 (skip_blanks c.args.text.now) (skip_blanks-utf8 c.args.text.now utf8)))
