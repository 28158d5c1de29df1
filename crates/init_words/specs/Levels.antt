-- Runlevels, the letters that call ondemand entries, and the characters for both (init(8), inittab(5)).
use Rattle.std.specs.Prelude.{ℕ, Bool, false, if◌then◌else◌, Option, Some, None, ◌==◌, List}
use Rattle.std.specs.Option.{option_map}
use Rattle.std.specs.List.{list_any}
use Rattle.init_words.specs.declared.levels.Level.{Level}
use Rattle.init_words.specs.declared.levels.Level.TheVariants.{L0, L1, L2, L3, L4, L5, L6, L7, L8, L9, S}
use Rattle.init_words.specs.declared.levels.Letter.{Letter}
use Rattle.init_words.specs.declared.levels.Letter.TheVariants.{A, B, C}
use Rattle.init_words.specs.declared.levels.Mark.{Mark}
use Rattle.init_words.specs.declared.levels.Mark.TheVariants.{At, OnCall}

-- the character code of the level
abbrev pub level_code : Level → ℕ
level_code L0 = 48
level_code L1 = 49
level_code L2 = 50
level_code L3 = 51
level_code L4 = 52
level_code L5 = 53
level_code L6 = 54
level_code L7 = 55
level_code L8 = 56
level_code L9 = 57
level_code S = 83

abbrev pub same_level : Level → Level → Bool
same_level k l = level_code k == level_code l

-- the level that the character names, with S in either case; none if it names no level
abbrev pub level_read : ℕ → Option Level
level_read code =
    if code == 48 then Some L0 else if code == 49 then Some L1 else if code == 50 then Some L2
    else if code == 51 then Some L3 else if code == 52 then Some L4 else if code == 53 then Some L5
    else if code == 54 then Some L6 else if code == 55 then Some L7 else if code == 56 then Some L8
    else if code == 57 then Some L9 else if code == 83 then Some S else if code == 115 then Some S else None

-- the character code of the letter, as a capital
abbrev pub letter_code : Letter → ℕ
letter_code A = 65
letter_code B = 66
letter_code C = 67

abbrev pub same_letter : Letter → Letter → Bool
same_letter k l = letter_code k == letter_code l

-- the letter A, B or C that the character is, in either case; none for any other character
abbrev pub letter_read : ℕ → Option Letter
letter_read code =
    if code == 65 then Some A else if code == 97 then Some A else if code == 66 then Some B
    else if code == 98 then Some B else if code == 67 then Some C else if code == 99 then Some C else None

-- the character code of the level or letter; letters are capitals
abbrev pub mark_code : Mark → ℕ
mark_code (At level) = level_code level
mark_code (OnCall letter) = letter_code letter

abbrev pub same_mark : Mark → Mark → Bool
same_mark (At k) (At l) = same_level k l
same_mark (OnCall k) (OnCall l) = same_letter k l
same_mark _ _ = false

-- the level if there is one, otherwise the letter
abbrev pub mark_of : Option Level → Option Letter → Option Mark
mark_of (Some level) letter = Some (At level)
mark_of None letter = option_map OnCall letter

-- the level or letter that the character names, in either case; none for any other character
abbrev pub mark_read : ℕ → Option Mark
mark_read code = mark_of (level_read code) (letter_read code)

-- the mark is one of the marks in the list
abbrev pub names : Mark → List Mark → Bool
names mark marks = list_any (same_mark mark) marks
