-- Which calls of an object in memory are to fail.
use Rattle.std.specs.Prelude.{ℕ, ◌+◌, ◌-◌, ◌^◌, ◌==◌, min, Bool, if◌then◌else◌, List, [], ◌∷◌, ◌++◌, refl}
use Rattle.std.specs.Coded.{Coded, code_by, coded×, coded_ℕ, coded_list}
use Rattle.std.specs.List.{list_any}

-- how many calls came, the numbers of those that are to fail, counted from 1, and how many failed
pub record Plan : Type 0 where
  pub calls : ℕ
  pub failing : List ℕ
  pub faults : ℕ

abbrev pub plan_code : Coded Plan
plan_code =
    code_by (ℕ × (List ℕ × ℕ)) (coded× coded_ℕ (coded× (coded_list coded_ℕ) coded_ℕ)) (λ p. (p.calls, (p.failing, p.faults)))
    (λ p. record { calls = p.0; failing = p.1.0; faults = p.1.1 }) (λ _. refl)

-- no call came, and none is to fail
abbrev pub no_calls : Plan
no_calls = record { calls = 0; failing = []; faults = 0 }

-- the plan by which one more call is to fail
abbrev pub with_failing : Plan → ℕ → Plan
with_failing plan call = record { calls = plan.calls; failing = plan.failing ++ call ∷ []; faults = plan.faults }

-- a counter of 64 bits after one more, which stays at its last value
abbrev pub count_on : ℕ → ℕ
count_on n = min (n + 1) (2 ^ 64 - 1)

-- a count of faults after a call, by whether it failed
abbrev pub count_faults : ℕ → Bool → ℕ
count_faults faults failed = if failed then count_on faults else faults

-- whether the next call is to fail
abbrev pub fails_next : Plan → Bool
fails_next plan = list_any (λ call. call == count_on plan.calls) plan.failing

-- the plan after the next call
abbrev pub after_call : Plan → Plan
after_call plan = record {
  calls = count_on plan.calls;
  failing = plan.failing;
  faults = count_faults plan.faults (fails_next plan);
}
