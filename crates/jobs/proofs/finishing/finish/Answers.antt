use Rattle.std.proofs.Common.{◌≡◌, ◌+◌, Ok, Err, Result, sym, ap, ◌∙◌, rules, arith}
use Rattle.faults.specs.declared.listing.ListingFault.{ListingFault}
use Rattle.cubes.proofs.Questions.{kept_still, kept_on}
use Rattle.listing.specs.declared.states.Finished.{Finished}
use Rattle.listing.specs.declared.states.Step.{Step}
use Rattle.listing.specs.declared.states.Step.TheVariants.{Listed}
use Rattle.listing.specs.Calls.{nexted}
use Rattle.jobs.proofs.Runs.{asked, lists_more, rest_all, rest_ends, rest_refuses, rest_lists}
use Rattle.jobs.proofs.finishing.finish.Given as given
use Rattle.jobs.proofs.finishing.finish.Goals as goal

-- the next of a turn that listed
listed : (g : given.Over) (c : goal.In-Listed g)
    → nexted c.loop-longer.listing (g.D.Decider.arity c.args.decider.now) (g.D.Decider.rows c.args.decider.now) c.loop-longer.register
    ≡ (Ok (Listed c.in-Listed.longer), c.next.new.register)
listed g c =
    asked c.loop-longer.invariant.0 c.loop-longer.invariant.1 c.in_ok-longer.ensures.next ∙ ap (λ (s : Step). (Ok s, c.next.new.register)) c.in-Listed.is

pub loop-longer-init : goal.loop-longer-init
loop-longer-init g c = (kept_still _ _ _, rest_all)

pub loop-longer-preserved : goal.loop-longer-preserved
loop-longer-preserved g c = (kept_on _ _ _ _ _ c.loop-longer.invariant.0 c.next.ensures.kept, rest_lists c.loop-longer.invariant.1 (listed g c))

pub loop-longer-smaller : goal.loop-longer-smaller
loop-longer-smaller g c =
    let more = lists_more c.loop-longer.invariant.1 (listed g c) in
    let few = more.1 in
    let one : c.in-Listed.longer.cubes ≡ c.loop-longer.listing.cubes + 1 = cc more.0 in
    omega arith

pub returns-in_err-longer-clause-run : goal.returns-in_err-longer-clause-run
returns-in_err-longer-clause-run g c =
    let fault : c.from_residual.result ≡ Err c.in_err-longer.field-0.0.fault = search rules in
    let turn = asked c.loop-longer.invariant.0 c.loop-longer.invariant.1 c.in_err-longer.ensures.next in
    ap (λ (r : Result Finished ListingFault). (r, c.next.new.register)) fault ∙ sym (rest_refuses c.loop-longer.invariant.1 turn)

pub returns-in-Ended-clause-run : goal.returns-in-Ended-clause-run
returns-in-Ended-clause-run g c =
    let turn = asked c.loop-longer.invariant.0 c.loop-longer.invariant.1 c.in_ok-longer.ensures.next in
    sym (rest_ends c.loop-longer.invariant.1 (turn ∙ ap (λ (s : Step). (Ok s, c.next.new.register)) c.in-Ended.is))
