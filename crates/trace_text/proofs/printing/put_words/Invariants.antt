use Rattle.trace_text.proofs.CommonWords.{◌≡◌, ◌++◌, map, drop, words_behind}
use Rattle.trace_text.proofs.printing.put_words.Given as goal

-- the text so far and that of the remaining words are the whole text
abbrev pub invariant-loop-word : goal.invariant-loop-word
invariant-loop-word g l = l.text.items ++ words_behind (map (λ word. word.now) (drop l.word-index l.words))
    ≡ l.fn.text.items ++ words_behind (map (λ word. word.now) l.words)
