-- Lemmas on writing lines one after another.
use Rattle.initview_lines.proofs.CommonWords.{◌≡◌, refl, sym, ap, ◌∙◌, List, [], ◌++◌, Option, Some, None, Line}
use Rattle.std.proofs.Common.{append-nil, append_assoc, subst}
use Rattle.initview_lines.specs.Outputs.{KnownOutput, WritesLines, WritesLinePrefix, AppendsLines, WritesNothing}

no_lines : (a : Option (List Line)) → AppendsLines a a []
no_lines None = tt
no_lines (Some past_lines) = sym (append-nil past_lines)

lines_then : (a b c : Option (List Line)) (first then : List Line) → AppendsLines a b first → AppendsLines b c then
    → AppendsLines a c (first ++ then)
lines_then None b c first then p q = tt
lines_then (Some x) None c first then p q = absurd p
lines_then (Some x) (Some y) None first then p q = absurd q
lines_then (Some x) (Some y) (Some z) first then p q = q ∙ ap (λ l. l ++ then) p ∙ append_assoc x first then

pub says_nothing : (a : KnownOutput) → WritesNothing a a
says_nothing a = (refl, no_lines a.lines)

pub says_then : (a b c : KnownOutput) (first then : List Line) → WritesLines a b first → WritesLines b c then
    → WritesLines a c (first ++ then)
says_then a b c first then p q = (q.0 ∙ p.0, lines_then a.lines b.lines c.lines first then p.1 q.1)

pub front_whole : (old new : KnownOutput) (lines : List Line) → WritesLines old new lines
    → WritesLinePrefix old new lines
front_whole old new lines past_lines = (lines, [], append-nil lines, past_lines)

pub front_none : (now : KnownOutput) (lines : List Line) → WritesLinePrefix now now lines
front_none now lines = ([], lines, refl, says_nothing now)

-- a prefix of the rest after the whole first part is a prefix of everything
pub front_then : (old mid new : KnownOutput) (first rest : List Line) → WritesLines old mid first
    → WritesLinePrefix mid new rest → WritesLinePrefix old new (first ++ rest)
front_then old mid new first rest whole (front, more, joined, past_lines) = (
  first ++ front,
  more,
  append_assoc first front more ∙ ap (λ lines. first ++ lines) joined,
  says_then old mid new first front whole past_lines,
)

-- a prefix remains one if nothing more is written
pub front_still : (old mid new : KnownOutput) (lines : List Line) → WritesLinePrefix old mid lines
    → WritesNothing mid new → WritesLinePrefix old new lines
front_still old mid new lines (front, rest, joined, past_lines) nothing = (
  front,
  rest,
  joined,
  subst (λ l. WritesLines old new l) (append-nil front) (says_then old mid new front [] past_lines nothing),
)
