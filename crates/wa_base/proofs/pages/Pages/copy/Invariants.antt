use Rattle.std.proofs.Common.{◌≡◌, ◌≤◌, take, length, vec_capacity}
use Rattle.wa_base.proofs.pages.Pages.copy.Given as goal

abbrev pub invariant-loop-page : goal.invariant-loop-page
invariant-loop-page l = (l.pages.items ≡ take l.page-index l.page-items) × (length l.page-items ≤ vec_capacity l.pages)
