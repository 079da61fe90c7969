-- Reading what stands around the calls, and then the calls.
use Rattle.std.proofs.Common.{◌≡◌, ◌++◌, List, [], refl, sym, ap, ◌∙◌, Ok, Err, Some, true, false, Bool, ◌∷◌}
use Rattle.std.specs.Prelude.{⊤, is_some, if◌then◌else◌}
use Rattle.serde_json.specs.Data.{Data, Items}
use Rattle.serde_json.specs.Find.{as_object}
use Rattle.wa_base.specs.declared.contexts.ContextSpec.{ContextSpec}
use Rattle.script_ast.specs.declared.call_list.Call.{Call}
use Rattle.script_ast.specs.declared.clocks.Clock.{Clock}
use Rattle.script_ast.specs.declared.clocks.Clock.TheVariants.{Frames}
use Rattle.script_ast.specs.Entries.{script_head, context_fields, script_tail}
use Rattle.script_ast.specs.declared.fields.Field.TheVariants as field
use Rattle.script_fields.proofs.Outcomes.{outcome_none, outcome_some}
use Rattle.script_json.proofs.CallSteps.{outcome_ok, outcome_err, outcome_of_none}
use Rattle.script_json.specs.Calls.{placed}
use Rattle.script_fields.specs.Fields.{fields_faults, member_at, count_in}
use Rattle.script_fields.specs.Outcome.{outcome}
use Rattle.script_json.specs.Reading.{calls_read}
use Rattle.script_json.specs.Script.{context_in, context_of, clock_at, clock_of, main_list, calls_of, head_faults, script_faults, script_in}
use Rattle.script_fields.specs.declared.faults.ScriptErr.{ScriptErr}
use Rattle.script_fields.specs.declared.faults.ScriptErr.TheVariants.{WrongKind}

pub head_no_object : (d : Data) (value : ContextSpec) → is_some (as_object d) ≡ false → outcome (head_faults d) value ≡ Err (WrongKind 0 field.Script)
unfolding head_faults
head_no_object d value object = rw object refl

pub context_in-there : (d context : Data) → member_at field.Context d ≡ Some context → context_in d ≡ context
unfolding context_in
context_in-there d context there = rw there refl

head_parts : (d : Data) → is_some (as_object d) ≡ true
    → head_faults d ≡ fields_faults Frames 0 d script_head ++ fields_faults Frames 0 (context_in d) context_fields ++ fields_faults Frames 0 d script_tail
unfolding head_faults
head_parts d object = rw object refl

pub head_first : (d : Data) (value : ContextSpec) (e : ScriptErr) → is_some (as_object d) ≡ true
    → outcome {A = ⊤} (fields_faults Frames 0 d script_head) tt ≡ Err e → outcome (head_faults d) value ≡ Err e
head_first d value e object head = rw (head_parts d object) (outcome_some _ _ _ e (outcome_some _ _ _ e head))

module _ (d context : Data) (value : ContextSpec) (u : ⊤) (object : is_some (as_object d) ≡ true)
    (head : outcome {A = ⊤} (fields_faults Frames 0 d script_head) tt ≡ Ok u) (there : member_at field.Context d ≡ Some context) where
  pub head_second : (e : ScriptErr) → outcome {A = ⊤} (fields_faults Frames 0 context context_fields) tt ≡ Err e → outcome (head_faults d) value ≡ Err e
  head_second e sizes = rw (head_parts d object, context_in-there d context there) (outcome_some _ _ _ e (outcome_none _ _ _ u head ∙ sizes))

  pub head_third : (v : ⊤) (e : ScriptErr) → outcome {A = ⊤} (fields_faults Frames 0 context context_fields) tt ≡ Ok v
      → outcome {A = ⊤} (fields_faults Frames 0 d script_tail) tt ≡ Err e → outcome (head_faults d) value ≡ Err e
  head_third v e sizes tail = rw (head_parts d object, context_in-there d context there) (outcome_none _ _ _ v (outcome_none _ _ _ u head ∙ sizes) ∙ outcome_err _ _ _ e tail)

  pub head_none : (v w : ⊤) → outcome {A = ⊤} (fields_faults Frames 0 context context_fields) tt ≡ Ok v
      → outcome {A = ⊤} (fields_faults Frames 0 d script_tail) tt ≡ Ok w → outcome (head_faults d) value ≡ Ok value
  head_none v w sizes tail = rw (head_parts d object, context_in-there d context there) (outcome_none _ _ _ v (outcome_none _ _ _ u head ∙ sizes) ∙ outcome_of_none _ _ _ _ tail)

head_object : (d : Data) (b : Bool) → (if b then fields_faults Frames 0 d script_head ++ fields_faults Frames 0 (context_in d) context_fields ++ fields_faults Frames 0 d script_tail else WrongKind 0 field.Script ∷ []) ≡ [] → b ≡ true
head_object d true h = refl
head_object d false h = cc

-- a script without a fault around its calls is an object
pub object_of_head : (d : Data) (value context : ContextSpec) → outcome (head_faults d) value ≡ Ok context → is_some (as_object d) ≡ true
unfolding head_faults
object_of_head d value context h = head_object d (is_some (as_object d)) (outcome_ok _ _ _ h).0

pub script_head_fault : (d : Data) (value : ContextSpec) (e : ScriptErr) → outcome (head_faults d) value ≡ Err e
    → outcome (script_faults d) (script_in d) ≡ Err e
unfolding script_faults
script_head_fault d value e head = outcome_some _ _ _ e (outcome_err _ _ _ e head)

-- the clock by the version and the rate that were read
pub clock_is : (d : Data) (context : ContextSpec) (clock : Clock) → outcome (head_faults d) (context_of (context_in d)) ≡ Ok context
    → clock ≡ clock_at (count_in script_head field.Version d) context.rate → clock ≡ clock_of d
unfolding clock_of
clock_is d context clock head counted =
    counted ∙ ap (λ (s : ContextSpec). clock_at (count_in script_head field.Version d) s.rate) (sym (outcome_ok _ _ _ head).1)

pub script_calls_fault : (d : Data) (context : ContextSpec) (clock : Clock) (ds : Items) (e : ScriptErr) → outcome (head_faults d) (context_of (context_in d)) ≡ Ok context
    → clock ≡ clock_of d → ds ≡ main_list d → calls_read clock [] (placed ds 0 0) ≡ Err e → outcome (script_faults d) (script_in d) ≡ Err e
unfolding script_faults calls_of calls_read
script_calls_fault d context clock ds e head is list calls =
    outcome_none _ _ _ tt (outcome_of_none _ _ _ tt head) ∙ outcome_err _ _ _ e (rw (is, list) at calls)

pub script_read : (d : Data) (context : ContextSpec) (clock : Clock) (ds : Items) (calls : List Call) → outcome (head_faults d) (context_of (context_in d)) ≡ Ok context
    → clock ≡ clock_of d → ds ≡ main_list d → calls_read clock [] (placed ds 0 0) ≡ Ok calls
    → outcome (script_faults d) (script_in d) ≡ Ok (record { context = context; calls = calls })
unfolding script_faults script_in calls_of calls_read
script_read d context clock ds calls head is list read =
    let e = outcome_ok _ _ _ head in
    let f = outcome_ok _ _ _ (rw (is, list) at read) in
    rw (e.0, f.0, e.1, f.1) refl
