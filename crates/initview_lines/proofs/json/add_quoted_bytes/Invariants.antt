use Rattle.initview_lines.proofs.CommonWords.{◌≡◌, ◌++◌, length}
use Rattle.initview_lines.specs.Json.{quoted_bytes}
use Rattle.initview_lines.proofs.json.add_quoted_bytes.Given as goal

-- the text so far, followed by the remaining bytes quoted, is the earlier text and all bytes quoted
abbrev pub invariant-loop-byte : goal.invariant-loop-byte
invariant-loop-byte l = l.text.items ++ quoted_bytes l.rest ≡ l.fn.text.items ++ quoted_bytes l.bytes

abbrev pub decreases-loop-byte : goal.decreases-loop-byte
decreases-loop-byte l = length l.rest
