use Rattle.rc_links.proofs.Words.{string_bytes, ◌≡◌, ◌∙◌, ◌++◌, ap, List, ℕ, Option, map, named, need, position_in}
use Rattle.rc_links.proofs.NeedLemmas.{names-twice, on_ok}
use Rattle.rc_links.proofs.needs.add_script.Goals as goal

pub returns-in_ok-add_names-in-Start : goal.returns-in_ok-add_names-in-Start
returns-in_ok-add_names-in-Start g c =
    let f = need c.args.phase c.args.position in
    let h : List ℕ → Option ℕ = position_in c.args.table.now in
    let header = c.args.script.now.header in
    let names : named c.args.phase header ≡ header.required_start ++ header.should_start =
    ap (λ turn. named turn header) c.in-Start.is in
    let required : map string_bytes c.required_start.result.now ≡ header.required_start =
    c.required_start.ensures ∙ ap (λ said. said.required_start) c.header-header.ensures in
    let should : map string_bytes c.should_start.result.now ≡ header.should_start =
    c.should_start.ensures ∙ ap (λ said. said.should_start) c.header-header.ensures in
    rw names (on_ok c.add_names-in-Start.result _ _ (λ more. names-twice f h header.required_start header.should_start
    c.args.edges.now.items c.add_names.new.edges.items c.add_names-in-Start.new.edges.items
    (rw required at c.in_ok-add_names-in-Start.ensures) (rw should at more)) c.add_names-in-Start.ensures)

pub returns-in_ok-add_names-in-Stop : goal.returns-in_ok-add_names-in-Stop
returns-in_ok-add_names-in-Stop g c =
    let f = need c.args.phase c.args.position in
    let h : List ℕ → Option ℕ = position_in c.args.table.now in
    let header = c.args.script.now.header in
    let names : named c.args.phase header ≡ header.required_stop ++ header.should_stop =
    ap (λ turn. named turn header) c.in-Stop.is in
    let required : map string_bytes c.required_stop.result.now ≡ header.required_stop =
    c.required_stop.ensures ∙ ap (λ said. said.required_stop) c.header-header.ensures in
    let should : map string_bytes c.should_stop.result.now ≡ header.should_stop =
    c.should_stop.ensures ∙ ap (λ said. said.should_stop) c.header-header.ensures in
    rw names (on_ok c.add_names-in-Stop-2.result _ _ (λ more. names-twice f h header.required_stop header.should_stop
    c.args.edges.now.items c.add_names-in-Stop.new.edges.items c.add_names-in-Stop-2.new.edges.items
    (rw required at c.in_ok-add_names-in-Stop.ensures) (rw should at more)) c.add_names-in-Stop-2.ensures)
