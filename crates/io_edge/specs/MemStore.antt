-- Files in memory whose calls may be told to fail.
use Rattle.std.specs.Prelude.{ℕ, ◌+◌, ◌-◌, ◌^◌, min, refl}
use Rattle.std.specs.Coded.{Coded, code_by, coded×, coded_ℕ}
use Rattle.std.specs.FinMap as finite
use Rattle.io_edge.specs.FileMap.{FileMap, file_map_code}
use Rattle.io_edge.specs.Plan.{Plan, plan_code, no_calls}

-- what each path holds, the plans of the calls of `fetch`, of `create` and of `append`, the greatest count
-- of bytes per `append`, and how many bytes of its piece an `append` leaves that fails
pub record MemStore : Type 0 where
  pub files : FileMap
  pub fetches : Plan
  pub creates : Plan
  pub appends : Plan
  pub most : ℕ
  pub kept : ℕ

abbrev pub mem_store_code : Coded MemStore
mem_store_code =
    code_by (FileMap × (Plan × (Plan × (Plan × (ℕ × ℕ))))) (coded× file_map_code (coded× plan_code (coded× plan_code (coded× plan_code (coded× coded_ℕ coded_ℕ)))))
    (λ s. (s.files, (s.fetches, (s.creates, (s.appends, (s.most, s.kept))))))
    (λ p. record { files = p.0; fetches = p.1.0; creates = p.1.1.0; appends = p.1.1.1.0; most = p.1.1.1.1.0; kept = p.1.1.1.1.1 }) (λ _. refl)

-- no path holds anything, no call came, none is to fail, and no count of bytes is too great
abbrev pub no_files : MemStore
no_files = record { files = finite.empty; fetches = no_calls; creates = no_calls; appends = no_calls; most = 2 ^ 64 - 1; kept = 0 }

-- how many calls of `create` and of `append` failed, which stops at the last value of a counter of 64 bits
abbrev pub failed_writes : MemStore → ℕ
failed_writes store = min (store.creates.faults + store.appends.faults) (2 ^ 64 - 1)
