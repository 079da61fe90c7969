use Rattle.std.proofs.Common.{◌≡◌, ◌+◌, ◌-◌, [], ◌∷◌, ◌++◌, take, Bool, true, false, cond, bytes_eq, Some, sym, ap, ◌∙◌, arith}
use Rattle.std.proofs.lemmas.List.{take_more}
use Rattle.serde_json.specs.Find.{get_member}
use Rattle.json_tree.specs.View.{view, members_view}
use Rattle.json_tree.proofs.Trees.{find_last}
use Rattle.json_tree.proofs.values.find.Goals as goal

pub returns-then-eq : goal.returns-then-eq
returns-then-eq c =
    let name = c.args.name.now in
    let xs = c.args.members.now in
    let m = c.index-members-left.result in
    let next : c.loop-left.left ≡ (c.loop-left.left - 1) + 1 = omega arith in
    let front : take c.loop-left.left xs ≡ take (c.loop-left.left - 1) xs ++ m ∷ [] =
    ap (λ k. take k xs) next ∙ take_more xs (c.loop-left.left - 1) m (omega arith) ∙ ap (λ y. take (c.loop-left.left - 1) xs ++ y ∷ []) (sym c.index-members-left.is) in
    let same : bytes_eq m.0.now name ≡ true = grind arith in
    sym (c.loop-left.invariant.found ∙ ap (λ ys. get_member name (members_view ys)) front ∙ find_last name (take (c.loop-left.left - 1) xs) m
    ∙ ap (λ (b : Bool). cond b (Some (view m.1)) (get_member name (members_view (take (c.loop-left.left - 1) xs)))) same)

pub loop-left-preserved : goal.loop-left-preserved
loop-left-preserved c =
    let name = c.args.name.now in
    let xs = c.args.members.now in
    let m = c.index-members-left.result in
    let next : c.loop-left.left ≡ (c.loop-left.left - 1) + 1 = omega arith in
    let front : take c.loop-left.left xs ≡ take (c.loop-left.left - 1) xs ++ m ∷ [] =
    ap (λ k. take k xs) next ∙ take_more xs (c.loop-left.left - 1) m (omega arith) ∙ ap (λ y. take (c.loop-left.left - 1) xs ++ y ∷ []) (sym c.index-members-left.is) in
    let other : bytes_eq m.0.now name ≡ false = grind arith in
    record {
      found =
          c.loop-left.invariant.found ∙ ap (λ ys. get_member name (members_view ys)) front ∙ find_last name (take (c.loop-left.left - 1) xs) m
          ∙ ap (λ (b : Bool). cond b (Some (view m.1)) (get_member name (members_view (take (c.loop-left.left - 1) xs)))) other;
      within = omega (arith, c.loop-left.invariant.within);
    }
