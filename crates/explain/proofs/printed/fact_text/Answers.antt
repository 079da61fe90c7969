use Rattle.std.proofs.Common.{◌≡◌, ◌∷◌, ◌++◌, ◌∙◌, ap, ap₂, rules, to_z, of_z, FitsSigned, flat_map}
use Rattle.std.specs.Fmt.{signed_decimal}
use Rattle.std.specs.Int.{w64}
use Rattle.std.proofs.lemmas.Int.{to_z-of_z}
use Rattle.explain.specs.Texts.{key_text, cell_text}
use Rattle.explain.proofs.FactPrinting.{front_printed, cells_printed}
use Rattle.explain.proofs.printed.fact_text.Goals as goal
use Rattle.explain.proofs.printed.fact_text.Goals.{in-Some+in_ok-push_cells, in_default}

pub returns : goal.returns
returns c =
    let fact = c.args.fact.now in
    let fits : FitsSigned w64 fact.value = search rules in
    let value : to_z w64 (of_z w64 fact.value) ≡ fact.value = to_z-of_z _ _ fits in
    let front : c.extend_from_slice.new.self.items ≡ key_text fact.key ++ 32 ∷ 61 ∷ 32 ∷ signed_decimal fact.value =
    c.in_ok-extend_from_slice.ensures.items ∙ ap₂ (λ xs ys. xs ++ ys) c.new-out.ensures.items c.as_bytes.ensures.value ∙ c.in_ok-text.ensures.ok
    ∙ ap (λ v. key_text fact.key ++ 32 ∷ 61 ∷ 32 ∷ signed_decimal v) value
    in
    elim c.match-fact.branch [
      | in-Some+in_ok-push_cells w ↦
          let all = ap (λ xs. xs ++ flat_map cell_text w.in-Some.cells) front ∙ cells_printed fact w.in-Some.cells w.in-Some.is in
          cc (c.from.ensures, w.in_ok-push_cells.ensures, w.out-is)
      | in_default w ↦ let all = front_printed fact w.in_default.is in cc (c.from.ensures, w.out-is)
    ]
