use Rattle.std.proofs.Common.{List, ℤ, ap, ◌∙◌}
use Rattle.wa_base.specs.Paging.{value_at}
use Rattle.wa_base.proofs.pages.Pages.write.Goals as goal

pub returns-clause-ok : goal.returns-clause-ok
returns-clause-ok c =
    let over = c.write_over.ensures.value c.args.below.now in
    let same = c.in_ok-fill_in.ensures.same in record {
      inside = λ k low. over.inside k low;
      before = λ i early. over.before i early ∙ same i ∙ ap (λ (pages : List (List ℤ)). value_at c.args.below.now pages i) c.self.view_is;
      after = λ i late. over.after i late ∙ same i ∙ ap (λ (pages : List (List ℤ)). value_at c.args.below.now pages i) c.self.view_is;
    }
