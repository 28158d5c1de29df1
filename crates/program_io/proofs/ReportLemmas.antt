-- When the last report is not empty.
use Rattle.std.proofs.Common.{◌<◌, ◌++◌, List, ℕ, arith, length, length-append}
use Rattle.program_io.specs.Reports.{AppendsReport, LastReportNonempty, ReportList}

-- after a report of a non-empty text, the last report is not empty
pub spoken : (before after : ReportList) (text : List ℕ) → AppendsReport before after text → 0 < length text
    → LastReportNonempty after
spoken before after text reported some = (text, before, reported, some)

-- a text that ends with a non-empty text is not empty
pub some_behind : (front text : List ℕ) → 0 < length text → 0 < length (front ++ text)
some_behind front text some = omega (arith, length-append front text, some)
