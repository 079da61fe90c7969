use Rattle.std.proofs.Common.{ℤ, ◌≡◌, ◌+◌, ◌-◌, ◌*◌, ◌<◌, ◌≤◌, ◌^◌, Some, List, refl, sym, ◌∙◌, ap, subst}
use Rattle.std.specs.Prelude.{unwrap_or}
use Rattle.node_table.specs.Equations.{equation_value}
use Rattle.filter_bank.specs.States.{equation_of}
use Rattle.node_table.specs.Frames.{item}
use Rattle.meaning.specs.Lists.{since}
use Rattle.filter_bank.specs.Heard.{HeardView, HasHeard, Brings, room_of}
use Rattle.filter_bank.proofs.causal_nodes.hear_one.Goals as goal

-- the node that is there is the one that is asked for
same : (c : goal.After-y-1) → (f : HeardView) → c.args.causal.now ≡ Some f → c.in-Some.causal ≡ f
same c f is = ap (λ o. unwrap_or o f) (sym c.in-Some.is ∙ is)

pub returns-in-Some-clause-heard : goal.returns-in-Some-clause-heard
returns-in-Some-clause-heard c f is early at heard brings =
    let here = same c f is in
    let heard' = subst (HasHeard at) (sym here) heard in
    let brings' = subst (λ (x : HeardView). Brings c.args.frames x.time c.args.x.now at) (sym here) brings in
    let early' = subst (λ (x : HeardView). x.time ≤ 2 ^ 62) (sym here) early in
    record {
      causal = c.hear.new.self;
      there = refl;
      outputs = subst (λ (x : HeardView). (frames : List ℤ) → equation_value (equation_of c.hear.new.self.state) frames ≡ equation_value (equation_of x.state) frames) here c.hear.ensures.outputs;
      birth = c.hear.ensures.birth ∙ ap (λ (x : HeardView). x.birth) here;
      time = c.hear.ensures.time early' ∙ ap (λ (x : HeardView). x.time + c.args.frames) here;
      heard = c.hear.ensures.heard early' at heard' brings';
    }

pub returns-in-Some-clause-values : goal.returns-in-Some-clause-values
returns-in-Some-clause-values c f is at heard brings channel k low now =
    let here = same c f is in
    subst (λ (x : HeardView). item c.hear.new.y (channel * c.args.frames + k) ≡ equation_value (equation_of x.state) (since (λ g. at g channel) x.birth (x.time + k + 1 - x.birth))) here
    (c.hear.ensures.values at (subst (HasHeard at) (sym here) heard) (subst (λ (x : HeardView). Brings c.args.frames x.time c.args.x.now at) (sym here) brings) channel k (subst (λ (x : HeardView). channel < room_of x) (sym here) low) now)

pub returns-in-Some-clause-rooms : goal.returns-in-Some-clause-rooms
returns-in-Some-clause-rooms c g is = (c.in-Some.causal, c.in-Some.is, ap (λ o. room_of (unwrap_or o g)) (sym is) ∙ c.hear.ensures.room)
