use Rattle.std.proofs.Common.{ℕ, ◌≡◌, ◌≤◌, ◌<◌, ◌∙◌, sym, ap, arith, subst}
use Rattle.std.proofs.lemmas.Bool.Decides.{nat_tests}
use Rattle.ctx_state.specs.Context.{ContextView, next, after_turn}
use Rattle.control_msgs.specs.Messages.{ended_marked}
use Rattle.meaning.specs.declared.world.World.{World}
use Rattle.meaning.specs.World.{plain}
use Rattle.meaning.specs.Validity.{IsValid}
use Rattle.meaning.proofs.Valid.{plain_valid, valid_plain}
use Rattle.control_side.specs.Machine.{Machine, machine_of}
use Rattle.control_side.specs.Turns.{gone_on}
use Rattle.control_side.proofs.Open.{NoneEnds, same_world}
use Rattle.control_side.proofs.Stepping.{steady_turned, turned_spec, turned_time, turned_machine}
use Rattle.control_side.proofs.control.Control.turn.Goals.{Else-self-next}
use Rattle.control_side.proofs.control.Control.turn.Goals as goal

-- the first frame of the next quantum
last : (context new : ContextView) (n : ℕ) → n ≡ new.time → new ≡ after_turn context → n ≡ next context
last context new n now turned = now ∙ ap (λ (x : ContextView). x.time) turned ∙ turned_time context

-- ---- where a source may end

valid : (old new : World) → IsValid (plain old) → (IsValid old → IsValid new) → IsValid (plain new)
valid old new is keeps = plain_valid new (keeps (valid_plain old is))

pub invariant_of-self : goal.invariant_of-self
invariant_of-self c = (
  steady_turned c.self.inside.context c.turn-turn.new.self c.self.inside.world c.mark_ended.new.world c.self.inside.book c.now-next.result c.mark_ended.ensures.marked (valid c.self.inside.world c.mark_ended.new.world c.self.invariant.0.valid c.mark_ended.ensures.valid)
      (ap (λ (x : ContextView). x.spec) c.turn-turn.ensures.context ∙ turned_spec c.self.inside.context)
      (subst (λ n. n ≤ 33555456) c.now-next.ensures.now c.now-next.ensures.short) c.self.invariant.0,
  rw c.as_slice.ensures at c.open_until-self-inside.ensures,
)

pub returns-then-self-next-clause-machine : goal.returns-then-self-next-clause-machine
returns-then-self-next-clause-machine c =
    let is : plain c.mark_ended.new.world ≡ ended_marked (next c.self.inside.context) (plain c.self.inside.world) = c.mark_ended.ensures.marked ∙ ap (λ n. ended_marked n (plain c.self.inside.world)) (last c.self.inside.context c.turn-turn.new.self c.now-next.result c.now-next.ensures.now c.turn-turn.ensures.context) in
    let old : Machine = machine_of c.self.inside.context c.self.inside.world c.self.inside.book in
    (λ i. record old { context = c.turn-turn.ensures.context i; world = is i }) ∙ ap gone_on c.self.view_is

pub returns-then-self-next-clause-valid : goal.returns-then-self-next-clause-valid
returns-then-self-next-clause-valid c = valid c.self.inside.world c.mark_ended.new.world c.self.invariant.0.valid c.mark_ended.ensures.valid

pub returns-then-self-next-clause-state : goal.returns-then-self-next-clause-state
returns-then-self-next-clause-state c =
    let steady = (invariant_of-self c).0 in
    rw (← c.self.view_is) (turned_machine c.turn-turn.result (machine_of c.self.inside.context c.self.inside.world c.self.inside.book) (machine_of c.turn-turn.new.self c.mark_ended.new.world c.self.inside.book) c.self.invariant.0.spec steady.spec c.turn-turn.ensures.state)

-- ---- where none ends

none : (c : Else-self-next) → NoneEnds c.now-next.result c.self.inside.world.scheds.items
none c i d low = c.self.invariant.1 c.now-next.result i d (let test = c.if-self-next.false in let below : c.now-next.result < c.self.inside.open_until = grind (arith, nat_tests) in below) low

same : (c : Else-self-next) → plain c.self.inside.world ≡ ended_marked c.now-next.result (plain c.self.inside.world)
same c = sym (same_world c.now-next.result c.self.inside.world (none c))

pub invariant_of-self-else-self-next : goal.invariant_of-self-else-self-next
invariant_of-self-else-self-next c = (
  steady_turned c.self.inside.context c.turn-turn.new.self c.self.inside.world c.self.inside.world c.self.inside.book c.now-next.result (same c) c.self.invariant.0.valid
      (ap (λ (x : ContextView). x.spec) c.turn-turn.ensures.context ∙ turned_spec c.self.inside.context)
      (subst (λ n. n ≤ 33555456) c.now-next.ensures.now c.now-next.ensures.short) c.self.invariant.0,
  c.self.invariant.1,
)

pub returns-else-self-next-clause-machine : goal.returns-else-self-next-clause-machine
returns-else-self-next-clause-machine c =
    let is : plain c.self.inside.world ≡ ended_marked (next c.self.inside.context) (plain c.self.inside.world) = same c ∙ ap (λ n. ended_marked n (plain c.self.inside.world)) (last c.self.inside.context c.turn-turn.new.self c.now-next.result c.now-next.ensures.now c.turn-turn.ensures.context) in
    let old : Machine = machine_of c.self.inside.context c.self.inside.world c.self.inside.book in
    (λ i. record old { context = c.turn-turn.ensures.context i; world = is i }) ∙ ap gone_on c.self.view_is

pub returns-else-self-next-clause-state : goal.returns-else-self-next-clause-state
returns-else-self-next-clause-state c =
    let steady = (invariant_of-self-else-self-next c).0 in
    rw (← c.self.view_is) (turned_machine c.turn-turn.result (machine_of c.self.inside.context c.self.inside.world c.self.inside.book) (machine_of c.turn-turn.new.self c.self.inside.world c.self.inside.book) c.self.invariant.0.spec steady.spec c.turn-turn.ensures.state)
