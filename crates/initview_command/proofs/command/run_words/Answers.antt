use Rattle.initview_command.proofs.Words.{◌∙◌, map, refl, string_bytes, sym, found_of, rows_of, path_texts}
use Rattle.initview_command.proofs.Asked.{ends_for, fault_done, not_none, refuses, so_done, version_done, words_given}
use Rattle.initview_command.proofs.Asked.{zone_unread}
use Rattle.initview_command.proofs.command.run_words.Goals as goal

pub returns-then-is_version-clause-ends : goal.returns-then-is_version-clause-ends
returns-then-is_version-clause-ends g c =
    version_done (g.T.Texts.text_at c.args.texts.now) (g.G.LiveTraces.text_at c.args.growing.now)
    (g.G.LiveTraces.writer_at c.args.growing.now) c.say_version.result (g.S.LineSink.said c.args.out.now)
    (g.S.LineSink.said c.say_version.new.out) (map string_bytes c.args.words.now) _
    (sym c.is_version.ensures ∙ c.if-is_version.true) c.say_version.ensures

pub returns-in-Err-clause-ends : goal.returns-in-Err-clause-ends
returns-in-Err-clause-ends g c =
    fault_done (g.T.Texts.text_at c.args.texts.now) (g.G.LiveTraces.text_at c.args.growing.now)
    (g.G.LiveTraces.writer_at c.args.growing.now) c.report_fault.result (g.E.Reporter.reports c.args.err.now)
    (g.E.Reporter.reports c.report_fault.new.err) (g.S.LineSink.said c.args.out.now)
    (map string_bytes c.args.words.now) _
    (sym c.is_version.ensures ∙ c.if-is_version.false) c.in-Err.fault c.in-Err.ensures.usage
    c.report_fault.ensures.report c.report_fault.ensures.memory

pub returns-in_default-clause-ends : goal.returns-in_default-clause-ends
returns-in_default-clause-ends g c =
    let rows = rows_of (found_of c.in-Ok.matches) in
    ends_for (g.T.Texts.text_at c.args.texts.now) (g.G.LiveTraces.text_at c.args.growing.now)
    (g.G.LiveTraces.writer_at c.args.growing.now) c.report_refusal.result (g.S.LineSink.said c.args.out.now)
    (g.S.LineSink.said c.args.out.now)
    (map string_bytes c.args.words.now) _ (sym c.is_version.ensures ∙ c.if-is_version.false) rows c.in-Ok.ensures.ok _
    (words_given rows c.words_of.result _ c.unwrap_or-words.result c.unwrap_or-words.ensures refl c.words_of.ensures)
    _ c.in_default.ensures (refuses c.report_refusal.result (g.E.Reporter.reports c.args.err.now)
    (g.E.Reporter.reports c.report_refusal.new.err) (g.S.LineSink.said c.args.out.now) c.report_refusal.ensures)

pub returns-in-Err-use_times-clause-ends : goal.returns-in-Err-use_times-clause-ends
returns-in-Err-use_times-clause-ends g c =
    let unread = c.in-Err-use_times.ensures.err in
    let rows = rows_of (found_of c.in-Ok.matches) in
    zone_unread (g.T.Texts.text_at c.args.texts.now) (g.G.LiveTraces.text_at c.args.growing.now)
    (g.G.LiveTraces.writer_at c.args.growing.now) c.report_zone.result (g.S.LineSink.said c.args.out.now)
    (g.S.LineSink.said c.use_times.new.out)
    (map string_bytes c.args.words.now) _ (sym c.is_version.ensures ∙ c.if-is_version.false) rows c.in-Ok.ensures.ok _
    (words_given rows c.words_of.result _ c.unwrap_or-words.result c.unwrap_or-words.ensures refl c.words_of.ensures)
    c.in-Some.command c.is_set.result c.in-Some.ensures c.is_set.ensures unread.0 c.report_zone.ensures unread.1

pub returns-clause-ends : goal.returns-clause-ends
returns-clause-ends g c =
    let rows = rows_of (found_of c.in-Ok.matches) in
    so_done (g.T.Texts.text_at c.args.texts.now) (g.G.LiveTraces.text_at c.args.growing.now)
    (g.G.LiveTraces.writer_at c.args.growing.now) c.run_asked.result (g.S.LineSink.said c.args.out.now)
    (g.S.LineSink.said c.run_asked.new.out)
    (map string_bytes c.args.words.now) _ (sym c.is_version.ensures ∙ c.if-is_version.false) rows c.in-Ok.ensures.ok _
    (words_given rows c.words_of.result _ c.unwrap_or-words.result c.unwrap_or-words.ensures refl c.words_of.ensures)
    c.in-Some.command c.is_set.result c.in-Some.ensures c.is_set.ensures (g.S.LineSink.said c.use_times.new.out)
    (path_texts c.paths_of-paths.result) c.paths_of-paths.ensures c.in_default-use_times.ensures.ok c.run_asked.ensures

pub returns-in_default-clause-refused : goal.returns-in_default-clause-refused
returns-in_default-clause-refused g c = λ _ _. c.report_refusal.ensures

pub returns-clause-refused : goal.returns-clause-refused
returns-clause-refused g c = λ _ none.
    let rows = rows_of (found_of c.in-Ok.matches) in
    not_none _ (map string_bytes c.args.words.now) rows _ c.in-Some.command
    (words_given rows c.words_of.result _ c.unwrap_or-words.result c.unwrap_or-words.ensures refl c.words_of.ensures)
    c.in-Ok.ensures.ok c.in-Some.ensures none

pub returns-in-Err-use_times-clause-refused : goal.returns-in-Err-use_times-clause-refused
returns-in-Err-use_times-clause-refused g c = λ _ none.
    let rows = rows_of (found_of c.in-Ok.matches) in
    not_none _ (map string_bytes c.args.words.now) rows _ c.in-Some.command
    (words_given rows c.words_of.result _ c.unwrap_or-words.result c.unwrap_or-words.ensures refl c.words_of.ensures)
    c.in-Ok.ensures.ok c.in-Some.ensures none
