-- Slots that are set late are those that were set in time.
use Rattle.std.proofs.Common.{ℕ, ◌≡◌, ◌++◌, List, [], ◌∷◌, map, Option, None, Some, refl, sym, ap, ◌∙◌, subst}
use Rattle.ctx_state.specs.Context.{next}
use Rattle.control_msgs.specs.Messages.{ended_marked}
use Rattle.meaning.specs.declared.params.Param.{Param}
use Rattle.meaning.specs.declared.world.World.{World}
use Rattle.meaning.specs.Automation.{slot_set}
use Rattle.meaning.specs.Lists.{Listed, listed}
use Rattle.meaning.specs.World.{sounding}
use Rattle.meaning.specs.Validity.{IsValid}
use Rattle.meaning.proofs.Automating.{slots_valid}
use Rattle.meaning.proofs.Sounding.{slots_unheard}
use Rattle.io_edge.specs.Paths.{Paths}
use Rattle.script_ast.specs.declared.call_list.Call.{Call}
use Rattle.transcript.specs.declared.lines.Answer.{Answer}
use Rattle.transcript.specs.declared.lines.Line.{Line}
use Rattle.transcript.specs.declared.lines.Line.TheVariants as line
use Rattle.control_side.specs.Machine.{Machine, params_caught_up, world_caught_up, caught_up}
use Rattle.control_side.specs.Turns.{gone_on}
use Rattle.session.specs.Session.{Told, lines_after, machine_after, after_call, after_turn}
use Rattle.control_side.specs.Step.{step, Steps}

-- slots that are set once more are as if they were set but then
set_again : (first last : ℕ) (params : List Param) → map (slot_set last) (map (slot_set first) params) ≡ map (slot_set last) params
set_again first last [] = refl
set_again first last (p ∷ ps) = ap (λ qs. slot_set last p ∷ qs) (set_again first last ps)

set_over : (behind : Option ℕ) (last : ℕ) (params : Listed Param) → map (slot_set last) (params_caught_up behind params).items ≡ map (slot_set last) params.items
set_over None last params = refl
set_over (Some first) last params = set_again first last params.items

-- a world sounds as it does once its slots are set
pub caught_up_sounds : (behind : Option ℕ) (w : World) → sounding w ≡ sounding (world_caught_up behind w)
caught_up_sounds None w = refl
caught_up_sounds (Some first) w = sym (slots_unheard w first)

pub caught_up_valid : (behind : Option ℕ) (w : World) → IsValid w → IsValid (world_caught_up behind w)
caught_up_valid None w valid = valid
caught_up_valid (Some first) w valid = slots_valid w first valid

-- A turn that leaves the slots to be set is the turn of the machine whose slots are set.
pub caught_up_after : (behind : Option ℕ) (old new : Machine) (first : ℕ) → first ≡ old.context.time → new ≡ gone_on old → caught_up (Some first) new ≡ machine_after (caught_up behind old)
caught_up_after behind old new first is_first is =
    ap (caught_up (Some first)) is
    ∙ ap (λ n. caught_up (Some n) (gone_on old)) is_first
    ∙ ap (λ (params : List Param). let m : Machine = record (gone_on old) { world = record (ended_marked (next old.context) old.world) { params = listed params } } in m) (sym (set_over behind old.context.time old.world.params))

pub told_after : (behind : Option ℕ) (old new : Machine) (first : ℕ) (lines more : List Line) → first ≡ old.context.time → new ≡ gone_on old → more ≡ lines ++ lines_after old
    → (let t : Told = record { machine = caught_up (Some first) new; lines = more } in t) ≡ after_turn (record { machine = caught_up behind old; lines = lines })
told_after behind old new first lines more is_first is are =
    let machine = caught_up_after behind old new first is_first is in
    λ i. record { machine = machine i; lines = are i }

-- where no slots are to be set, the machine stays
pub caught_up_none : (behind : Option ℕ) (m : Machine) → behind ≡ None → caught_up behind m ≡ m
caught_up_none behind m is = ap (λ b. caught_up b m) is

-- what holds of a call's machines holds too where slots were set before it
pub over_call : (P : Machine → Machine → Type 0) (behind now : Option ℕ) (old calm new : Machine) → now ≡ None → calm ≡ caught_up behind old → P calm new → P (caught_up behind old) (caught_up now new)
over_call P behind now old calm new none is p = subst (λ (m : Machine). P m (caught_up now new)) is (subst (P calm) (sym (caught_up_none now new none)) p)

pub told_called : (behind now : Option ℕ) (old calm new : Machine) (held : Paths) (call : Call) (said : Answer) (lines more : List Line) → now ≡ None → calm ≡ caught_up behind old → Steps new (step calm held call) said
    → more ≡ lines ++ line.Call call.ordinal said ∷ []
    → (let t : Told = record { machine = caught_up now new; lines = more } in t) ≡ after_call (record { machine = caught_up behind old; lines = lines }) held call
told_called behind now old calm new held call said lines more none is steps are =
    let machine = caught_up_none now new none ∙ steps.0 ∙ ap (λ (m : Machine). (step m held call).machine) is in
    let texts = are ∙ ap (λ (a : Answer). lines ++ line.Call call.ordinal a ∷ []) (steps.1 ∙ ap (λ (m : Machine). (step m held call).answer) is) in
    λ i. record { machine = machine i; lines = texts i }
