-- What a call leaves of a machine.
use Rattle.std.proofs.Common.{ℕ, ◌≡◌, List, true, false, Option, Some, None, Result, Ok, Err, IsSome, refl, sym, ◌∙◌, ap, subst}
use Rattle.std.specs.Prelude.{is_some, if◌then◌else◌, IfOk, OnOk, OnErr}
use Rattle.wa_base.specs.declared.exceptions.Exc.TheVariants.{InvalidState}
use Rattle.wa_base.specs.declared.memory.NoMemory.{NoMemory}
use Rattle.transcript.specs.declared.lines.Answer.{Answer}
use Rattle.io_edge.specs.Paths.{Paths}
use Rattle.script_ast.specs.Operations.{new_name}
use Rattle.script_ast.specs.declared.call_list.Call.{Call}
use Rattle.script_ast.specs.declared.operations.Op.{Op}
use Rattle.script_ast.specs.declared.operations.Op.TheVariants as op
use Rattle.meaning.specs.declared.change.Edit.{Edit}
use Rattle.meaning.specs.declared.world.World.{World}
use Rattle.meaning.specs.Changes.{edited, Grows}
use Rattle.meaning.proofs.Changing.{grows_same, changed_grows}
use Rattle.control_side.specs.declared.control.Stepped.{Stepped}
use Rattle.control_side.specs.declared.decide.Decided.{Decided}
use Rattle.control_side.specs.declared.decide.Decided.TheVariants as comes_to
use Rattle.control_side.specs.Machine.{Machine}
use Rattle.control_side.specs.Steady.{IsSteady}
use Rattle.control_side.specs.Step.{decided_with, promises, decided, with_edit, settled, is_start, KeepsTime, RunsOnceStarted, IsFor, Steps}

edit_world : (m : Machine) (e : Edit) (name : Option (List ℕ)) → (with_edit m e name).world ≡ edited m.world m.context.time e
edit_world m e None = refl
edit_world m e (Some name) = refl

edit_time : (m : Machine) (e : Edit) (name : Option (List ℕ)) → (with_edit m e name).context.time ≡ m.context.time
edit_time m e None = refl
edit_time m e (Some name) = refl

edit_started : (m : Machine) (e : Edit) (name : Option (List ℕ)) → (with_edit m e name).context.started ≡ m.context.started
edit_started m e None = refl
edit_started m e (Some name) = refl

edit_runs : (m : Machine) (e : Edit) (name : Option (List ℕ)) → RunsOnceStarted m → RunsOnceStarted (with_edit m e name)
edit_runs m e None runs = runs
edit_runs m e (Some name) runs = runs

pub record Leaves (m next : Machine) (o : Op) : Type 0 where
  pub grows : Grows m.context.time m.world next.world
  pub kept : KeepsTime m next
  pub kept_start : is_start o ≡ false → next.context.started ≡ m.context.started
  pub runs : RunsOnceStarted m → RunsOnceStarted next

pub leaves_all : (m : Machine) (o : Op) → Leaves m m o
leaves_all m o = record { grows = grows_same m.context.time m.world; kept = record { spec = refl; now = refl }; kept_start = λ other. refl; runs = λ runs. runs }

pub settled_leaves : (m : Machine) → IsSteady m → (call : Call) (d : Decided) → IsFor m call.op d → Leaves m (settled m call d).machine call.op
settled_leaves m steady call (comes_to.Answer said) fits = leaves_all m call.op
settled_leaves m steady call comes_to.Start fits = record {
  grows = grows_same m.context.time m.world;
  kept = record { spec = refl; now = refl };
  kept_start = λ other. absurd (let both = sym fits.0 ∙ other in cc);
  runs = λ runs started. refl;
}
settled_leaves m steady call (comes_to.Suspend frame) fits = record {
  grows = grows_same m.context.time m.world;
  kept = record { spec = refl; now = refl };
  kept_start = λ other. refl;
  runs = λ runs. runs;
}
settled_leaves m steady call comes_to.Resume fits = record {
  grows = grows_same m.context.time m.world;
  kept = record { spec = refl; now = refl };
  kept_start = λ other. refl;
  runs = λ runs started. refl;
}
settled_leaves m steady call (comes_to.Change e) fits =
    let grows = changed_grows m.world (record { time = m.context.time; edit = e }) steady.valid fits.0 in
    let world = edit_world m e (new_name call.op) in
    record {
      grows = subst (λ (w : World). Grows m.context.time m.world w) (sym world) grows;
      kept = record { spec = ap (λ (w : World). w.spec) world ∙ grows.spec; now = edit_time m e (new_name call.op) };
      kept_start = λ other. edit_started m e (new_name call.op);
      runs = λ runs. edit_runs m e (new_name call.op) runs;
    }

-- after the call that starts rendering, it was started
then_started : (m : Machine) (call : Call) (s : Option ℕ) → m.context.started ≡ s
    → IsSome (settled m call (promises (if is_some s then Some InvalidState else None) comes_to.Start)).machine.context.started
then_started m call None is = refl
then_started m call (Some ordinal) is = rw is refl

op_starts : (m : Machine) (call : Call) (held : Paths) (o : Op) → is_start o ≡ true → IsSome (settled m call (decided_with m held o)).machine.context.started
unfolding decided
op_starts m call held op.StartRendering is = then_started m call m.context.started refl
op_starts m call held other is = absurd cc

-- a machine after a call, or as it was for want of memory
pub stepped_leaves : (old new : Machine) (call : Call) (d : Decided) (r : Result Stepped NoMemory) → IfOk r (λ s. Steps new (settled old call d) s.answer) → OnErr r (new ≡ old) → IsSteady old → IsFor old call.op d
    → Leaves old new call.op
stepped_leaves old new call d (Ok said) done failed steady fits = subst (λ (m : Machine). Leaves old m call.op) (sym done.0) (settled_leaves old steady call d fits)
stepped_leaves old new call d (Err e) done failed steady fits = subst (λ (m : Machine). Leaves old m call.op) (sym failed) (leaves_all old call.op)

stepped_started : (old new : Machine) (call : Call) (held : Paths) (d : Decided) (said : Answer) → Steps new (settled old call d) said → d ≡ decided_with old held call.op → is_start call.op ≡ true
    → IsSome new.context.started
stepped_started old new call held d said done is starts = rw (done.0, is) (op_starts old call held call.op starts)

pub starts_left : (old new : Machine) (call : Call) (held : Paths) (d : Decided) (r : Result Stepped NoMemory) → IfOk r (λ s. Steps new (settled old call d) s.answer) → d ≡ decided_with old held call.op → is_start call.op ≡ true
    → OnOk r (IsSome new.context.started)
starts_left old new call held d (Ok said) done is starts = stepped_started old new call held d said.answer done is starts
starts_left old new call held d (Err e) done is starts = tt
