use Rattle.std.proofs.Common.{ℤ, ◌^◌, ◌<◌, ◌≤◌, ◌+◌, ◌-◌, ◌*◌, ◌≡◌, List, sym, ◌∙◌, ap, arith, subst}
use Rattle.node_table.specs.Equations.{equation_value}
use Rattle.node_table.specs.Frames.{item}
use Rattle.filter_bank.specs.States.{stands, equation_of}
use Rattle.filter_bank.specs.Heard.{HeardView, HasHeard, Brings, HasOutputs, room_of}
use Rattle.meaning.specs.Lists.{since}
use Rattle.filter_bank.proofs.Since.{heard_from}
use Rattle.filter_bank.proofs.causal_node.CausalNode.hear.Goals as goal

pub returns-clause-outputs : goal.returns-clause-outputs
returns-clause-outputs c = subst (λ (f : HeardView). HasOutputs c.block.new.self (equation_of f.state)) c.self.view_is (λ frames. ap (λ (g : List ℤ → ℤ). g frames) c.block.ensures.value)

-- time goes on
unsaturated : (c : goal.After-self-1) → c.self.inside.time ≤ 2 ^ 62 → c.self.inside.time + c.args.frames ≡ c.saturating_add-self-inside.result
unsaturated c early = let sum = c.saturating_add-self-inside.ensures in let few = c.requires.frames.high in grind arith

-- of one channel, one more block
pub returns-clause-heard : goal.returns-clause-heard
returns-clause-heard c early at heard brings channel =
    let heard' = subst (HasHeard at) (sym c.self.view_is) heard in
    let brings' = subst (λ (f : HeardView). Brings c.args.frames f.time c.args.x.now at) (sym c.self.view_is) brings in
    let early' = subst (λ (f : HeardView). f.time ≤ 2 ^ 62) (sym c.self.view_is) early in
    let later : c.self.inside.time + c.args.frames ≡ c.saturating_add-self-inside.result = unsaturated c early' in
    subst (stands c.block.new.self channel)
    (heard_from (λ g. at g channel) c.args.x.now (channel * c.args.frames) c.self.inside.birth c.self.inside.time c.args.frames c.self.invariant.lived (λ i l. brings' channel i l)
    ∙ ap (λ n. since (λ g. at g channel) c.self.inside.birth (n - c.self.inside.birth)) later)
    (c.block.ensures.stands channel _ (heard' channel))

pub returns-clause-values : goal.returns-clause-values
returns-clause-values c at heard brings channel k low now =
    let heard' = subst (HasHeard at) (sym c.self.view_is) heard in
    let brings' = subst (λ (f : HeardView). Brings c.args.frames f.time c.args.x.now at) (sym c.self.view_is) brings in
    let low' = subst (λ (f : HeardView). channel < room_of f) (sym c.self.view_is) low in
    subst (λ (f : HeardView). item c.block.new.y (channel * c.args.frames + k) ≡ equation_value (equation_of f.state) (since (λ g. at g channel) f.birth (f.time + k + 1 - f.birth))) c.self.view_is
    (c.block.ensures.output channel k _ low' now (heard' channel)
    ∙ ap (equation_value (equation_of c.self.inside.state))
    (heard_from (λ g. at g channel) c.args.x.now (channel * c.args.frames) c.self.inside.birth c.self.inside.time (k + 1) c.self.invariant.lived (λ i l. brings' channel i (omega arith))
    ∙ ap (since (λ g. at g channel) c.self.inside.birth) (let e : c.self.inside.time + (k + 1) - c.self.inside.birth ≡ c.self.inside.time + k + 1 - c.self.inside.birth = omega arith in e)))
