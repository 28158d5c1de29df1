-- Texts that are appended part by part.
use Rattle.core_text.proofs.CommonWords.{◌≡◌, ℕ, ◌+◌, List, [], ◌∷◌, ◌++◌, codes, map, length, decimal, append-nil}
use Rattle.core_text.proofs.CommonWords.{refl, sym, ap, ◌∙◌, arith, length-append, flat_map, flat_map-append}
use Rattle.core_text.proofs.CommonWords.{append_assoc, length-map, Entry, fields_written, text_of, SavedState, Version}
use Rattle.core_text.proofs.CommonWords.{body_lines, slot_line, starts_word, table_line, text_of_lines}

-- times separated by commas
pub starts_joined : (time : ℕ) (times : List ℕ)
    → starts_word (time ∷ times) ≡ decimal time ++ flat_map (λ t. 44 ∷ decimal t) times
starts_joined time [] = sym (append-nil (decimal time))
starts_joined time (next ∷ times) = ap (λ t. decimal time ++ 44 ∷ t) (starts_joined next times)

pub text_of_lines-append : (xs ys : List (List ℕ)) → text_of_lines (xs ++ ys) ≡ text_of_lines xs ++ text_of_lines ys
text_of_lines-append xs ys = flat_map-append (λ line. line ++ 10 ∷ []) xs ys

pub more_lines : (old mid new : List ℕ) (xs ys : List (List ℕ)) → mid ≡ old ++ text_of_lines xs
    → new ≡ mid ++ text_of_lines ys → new ≡ old ++ text_of_lines (xs ++ ys)
more_lines old mid new xs ys first second = grind (arith, append_assoc, text_of_lines-append)

-- the words of a record
life_more : (child act order more : List ℕ)
    → (32 ∷ (child ++ 32 ∷ (act ++ 32 ∷ order))) ++ more ≡ 32 ∷ (child ++ 32 ∷ (act ++ 32 ∷ (order ++ more)))
life_more child act order more = ap (λ t. 32 ∷ t) (append_assoc child (32 ∷ (act ++ 32 ∷ order)) more
    ∙ ap (λ t. child ++ 32 ∷ t) (append_assoc act (32 ∷ order) more))

appended : (old a b c d : List ℕ) → (((old ++ a) ++ b) ++ c) ++ d ≡ old ++ (a ++ (b ++ (c ++ d)))
appended old a b c d =
    append_assoc ((old ++ a) ++ b) c d ∙ append_assoc (old ++ a) b (c ++ d) ∙ append_assoc old a (b ++ (c ++ d))

pub slot_words : (old n1 n2 n3 n4 new id child act order limits : List ℕ) → n1 ≡ old ++ codes "slot " → n2 ≡ n1 ++ id
    → n3 ≡ n2 ++ 32 ∷ (child ++ 32 ∷ (act ++ 32 ∷ order)) → n4 ≡ n3 ++ limits → new ≡ n4 ++ 10 ∷ []
    → new ≡ old ++ ((codes "slot " ++ (id ++ 32 ∷ (child ++ 32 ∷ (act ++ 32 ∷ (order ++ limits))))) ++ 10 ∷ [])
slot_words old n1 n2 n3 n4 new id child act order limits e1 e2 e3 e4 e5 =
    grind (arith, appended, life_more, append_assoc)

-- the lines of a table
pub table_lines : (table : List Entry) → text_of table ≡ text_of_lines (map fields_written table)
table_lines [] = refl
table_lines (e ∷ table) = ap (λ t. (fields_written e ++ 10 ∷ []) ++ t) (table_lines table)

pub table_part : (old new : List ℕ) (count : ℕ) (table : List Entry) → new ≡ old ++ (text_of_lines
    (table_line count ∷ []) ++ text_of table) → new ≡ old ++ text_of_lines (table_line count ∷ map fields_written table)
table_part old new count table is =
    is ∙ ap (λ t. old ++ (text_of_lines (table_line count ∷ []) ++ t)) (table_lines table)
    ∙ ap (λ t. old ++ t) (sym (text_of_lines-append (table_line count ∷ []) (map fields_written table)))

-- the number of lines before the last one
pub body_length : (v : Version) (state : SavedState)
    → length (body_lines v state) ≡ 8 + length state.table + length state.records
body_length v state = grind (arith, length-append, map, fields_written, slot_line, length-map)
