-- Examples: processes with operators, and with operators in quotes, parts or comments. `refl` computes the answers.
use Rattle.inittab_lint.proofs.Words.{◌≡◌, refl, codes, true, false, None, Some, operator_of}
use Rattle.inittab_lint.specs.Shell.{expands_early}
use Rattle.inittab_lint.specs.declared.shell.Operator.TheVariants.{Chain, Pipe, Unclosed}

-- a backslash is read with the quote after it
quoted : operator_of (codes "sh -c \"echo \\\"hi\\\"; exec sleep 9\"") ≡ None
quoted = refl

one_quoted : operator_of (codes "echo \"a\\\"b\" c") ≡ None
one_quoted = refl

backquoted : operator_of (codes "echo `a \\` ; b`") ≡ None
backquoted = refl

parenthesis : operator_of (codes "echo $(a \\) ; b)") ≡ None
parenthesis = refl

-- so this quote is not closed
unfinished : operator_of (codes "\"exec\\\"") ≡ Some Unclosed
unfinished = refl

-- two backslashes are read as one
behind_two : operator_of (codes "echo \"a\\\\\" ; b") ≡ Some Chain
behind_two = refl

-- a backslash means nothing within single quotes
single : operator_of (codes "echo 'a\\' ; b'") ≡ Some Chain
single = refl

-- nested parts
nested : operator_of (codes "a $(cat $(which b); echo) | c") ≡ Some Pipe
nested = refl

quoted_within : operator_of (codes "a \"$(hostname \"b;c\")\"") ≡ None
quoted_within = refl

arithmetic : operator_of (codes "a $(( (1) | 2 ))") ≡ None
arithmetic = refl

default : operator_of (codes "a ${B:-c;d}") ≡ None
default = refl

open_within : operator_of (codes "a $( ( b )") ≡ Some Unclosed
open_within = refl

-- operators in a comment are ignored, and # within a word does not begin a comment
comment : operator_of (codes "a >b 2>&1 # it's the web; c") ≡ None
comment = refl

hash : operator_of (codes "a b#c ${#d} $# ; e") ≡ Some Chain
hash = refl

-- A command in double quotes is expanded before the shell that is given it, unless there is a backslash before the $ or
-- the quotes are single ones. If no shell is given it, the expansion is intended.
handed : expands_early (codes "env A=b /bin/sh -c \"echo $A\"") ≡ true
handed = refl

handed_flags : expands_early (codes "bash  -ec \"for i in a; do echo ${i}; done\"") ≡ true
handed_flags = refl

handed_behind : expands_early (codes "exec 'a b' \"$HOME\" | sh -c \"x $(y)\"") ≡ true
handed_behind = refl

handed_escaped : expands_early (codes "sh -c \"echo \\$A \\\"b\\\" 5$\"") ≡ false
handed_escaped = refl

handed_single : expands_early (codes "sh -c 'sh -c \"echo $A\"' \"$B\"") ≡ false
handed_single = refl

meant_so : expands_early (codes "/sbin/agetty -c \"$TTY\"") ≡ false
meant_so = refl

not_read : expands_early (codes "a # sh -c \"echo $A\"") ≡ false
not_read = refl
