use Rattle.std.proofs.Common.{◌≡◌, ◌≤◌, replicate, [], vec_capacity}
use Rattle.wa_base.proofs.pages.Pages.new.Given as goal

abbrev pub invariant-loop : goal.invariant-loop
invariant-loop l = (l.pages.items ≡ replicate l.counter []) × (l.count ≤ vec_capacity l.pages)
