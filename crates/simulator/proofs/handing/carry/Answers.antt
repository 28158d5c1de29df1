use Rattle.simulator.proofs.Words.{Vec, ℕ, length, map, sym, ap, ◌∙◌, ◌≡◌, take, subst, IfSome, state_of, comes_back}
use Rattle.simulator.proofs.Words.{taken_of, IsTakenOver}
use Rattle.simulator.proofs.Foreign.{cut_foreign, made_foreign, made_is, may_cut, may_older, none_taken, own_taken}
use Rattle.simulator.proofs.Hearing.{ok_gives}
use Rattle.simulator.proofs.handing.carry.Goals as goal

pub returns-in-Whole-clause-taken : goal.returns-in-Whole-clause-taken
returns-in-Whole-clause-taken g c =
    let core = c.args.core.now in
    ok_gives c.taken.result (IsTakenOver c.args.text.now c.generation-generation.result)
    (λ taken. taken ≡ taken_of c.args.how core) c.taken.ensures
    (λ taken is. own_taken c.args.text.now c.generation-generation.result core taken c.requires.fit c.requires.says
    (sym c.generation-generation.ensures) is
    ∙ sym (ap (λ how. taken_of how core) c.in-Whole.is))

pub returns-in-Cut-clause-taken : goal.returns-in-Cut-clause-taken
returns-in-Cut-clause-taken g c =
    let core = c.args.core.now in
    let back = take c.in-Cut.bytes c.args.text.now in
    let foreign =
    cut_foreign c.args.text.now c.in-Cut.bytes c.generation-generation.result (state_of core) c.requires.says
    (may_cut (length c.args.made.now) (length c.args.text.now) c.in-Cut.bytes c.args.how c.in-Cut.is c.requires.may) in
    ok_gives c.taken-in-Cut.result (IsTakenOver back c.generation-generation.result)
    (λ taken. taken ≡ taken_of c.args.how core) c.taken-in-Cut.ensures
    (λ taken is. none_taken back c.generation-generation.result taken foreign is
    ∙ sym (ap (λ how. taken_of how core) c.in-Cut.is))

pub returns-in-Older-clause-back : goal.returns-in-Older-clause-back
returns-in-Older-clause-back g c =
    let core = c.args.core.now in
    let made = map (λ (text : Vec ℕ g.row.A.Denot). text.items) c.args.made.now in
    let back = c.as_slice.result.now in
    let is : _ ≡ back =
    made_is (λ (text : Vec ℕ g.row.A.Denot). text.items) c.args.made.now c.in-Older.older c.index-made-older.result back
    (may_older (length c.args.made.now)
    (length c.args.text.now) c.in-Older.older c.args.how c.in-Older.is c.requires.may)
    c.index-made-older.is c.as_slice.ensures.value in
    ok_gives c.taken-in-Older.result (IsTakenOver back c.generation-generation.result) _ c.taken-in-Older.ensures
    (λ taken over. subst (λ how. IfSome (comes_back how c.args.text.now made)
    (λ t. IsTakenOver t core.fields.generation taken)) (sym c.in-Older.is)
    (subst (λ t. IsTakenOver t core.fields.generation taken) (sym is)
    (subst (λ n. IsTakenOver back n taken) c.generation-generation.ensures over)))

pub returns-in-Older-clause-taken : goal.returns-in-Older-clause-taken
returns-in-Older-clause-taken g c =
    let core = c.args.core.now in
    let back = c.as_slice.result.now in
    let foreign = made_foreign (λ (text : Vec ℕ g.row.A.Denot). text.items) c.args.made.now c.in-Older.older
    core.fields.generation c.index-made-older.result back c.requires.made
    (may_older (length c.args.made.now)
    (length c.args.text.now) c.in-Older.older c.args.how c.in-Older.is c.requires.may)
    c.index-made-older.is c.as_slice.ensures.value c.requires.next in
    ok_gives c.taken-in-Older.result (IsTakenOver back c.generation-generation.result)
    (λ taken. taken ≡ taken_of c.args.how core) c.taken-in-Older.ensures
    (λ taken over. none_taken back core.fields.generation taken foreign (subst (λ n. IsTakenOver back n taken)
    c.generation-generation.ensures over) ∙ sym (ap (λ how. taken_of how core) c.in-Older.is))
