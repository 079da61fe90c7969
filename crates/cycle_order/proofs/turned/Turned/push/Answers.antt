use Rattle.std.proofs.Common.{◌≡◌, ◌<◌, ◌++◌, ◌∷◌, [], None, Some, length, get_or, set, arith, ◌∙◌, ap}
use Rattle.std.proofs.lemmas.List.{get_or_read, length-map}
use Rattle.cycle_order.specs.Links.{chain, sources}
use Rattle.cycle_order.specs.declared.turned.Link.{Link}
use Rattle.cycle_order.proofs.Links.{one_more}
use Rattle.cycle_order.proofs.turned.Turned.push.Goals as goal

pub returns : goal.returns
returns c =
    let links = c.self.inside.links.items in
    let firsts = c.self.inside.firsts.items in
    let from = c.args.from in
    let to = c.args.to in
    let number = length-map firsts (chain links (length links)) in
    let seen = ap length c.self.view_is in
    let asked = c.requires in
    let below : to < length firsts = omega arith in
    let key : c.len-key.result ≡ length links = let own = c.len-key.ensures in let same = c.self.inside.links.ok.0 in omega arith in
    let more : c.push.new.self.items ≡ links ++ (record { from = from; behind = get_or firsts to None }) ∷ [] =
    c.in_ok-push.ensures.items ∙ ap (λ b. links ++ (let l : Link = record { from = from; behind = b } in l) ∷ []) (get_or_read firsts to c.index.result.now below c.index.ensures None) in
    ap (λ k. sources c.push.new.self.items (set firsts to (Some k))) key
    ∙ ap (λ ls. sources ls (set firsts to (Some (length links)))) more
    ∙ one_more links firsts c.self.invariant from to
    ∙ ap (λ xs. set xs to (from ∷ get_or xs to [])) c.self.view_is
