-- What an observer is shown, quantum after quantum.
use Rattle.std.proofs.Common.{ℕ, ◌≡◌, ◌≤◌, ◌*◌, ◌+◌, ◌∷◌, ◌++◌, [], List, length, map, Bool, false, sym, ap, ◌∙◌, arith, length-append}
use Rattle.std.specs.Prelude.{IsTrue}
use Rattle.std.proofs.lemmas.List.{length-map, map-append}
use Rattle.std.proofs.Math.Nat.{mul-le-mul_right}
use Rattle.wa_base.specs.Contexts.{IsSupported, quantum_of}
use Rattle.ctx_state.specs.Context.{next, turn_of}
use Rattle.ctx_state.specs.declared.context.Turn.TheVariants.{Went}
use Rattle.control_msgs.specs.Messages.{marked, after}
use Rattle.meaning.specs.declared.world.World.{World}
use Rattle.meaning.specs.Lists.{listed}
use Rattle.meaning.specs.World.{sounding}
use Rattle.meaning.proofs.Sounding.{slots_unheard}
use Rattle.control_side.specs.Turns.{ended_lines}
use Rattle.control_side.proofs.Open.{none_marked, none_told}
use Rattle.session.specs.Session.{Told, after_turn, lines_after, promise_lines}
use Rattle.session.specs.Observing.{ComesNext}
use Rattle.session.specs.View.{SessionView, Stands}

-- ---- a quantum in which no source ends

-- a world whose sources stay as they are sounds as before
same_after : (first now : ℕ) (w : World) → map (marked now) w.scheds.items ≡ w.scheds.items → sounding (after first now w) ≡ sounding w
same_after first now w same = ap (λ plays. let x : World = record (sounding w) { params = (sounding (after first now w)).params; scheds = listed plays } in x) same ∙ slots_unheard w first

-- After a turn that no line tells of, the world sounds as before.
pub quiet_turn : (old new : Told) → new ≡ after_turn old → turn_of old.machine.context ≡ Went → length new.lines ≡ length old.lines → sounding new.machine.world ≡ sounding old.machine.world
quiet_turn old new is went quiet =
    let lines : length new.lines ≡ length old.lines + length (lines_after old.machine) = ap (λ t. length t.lines) is ∙ length-append old.lines (lines_after old.machine) in
    let both : length (lines_after old.machine) ≡ length (ended_lines old.machine.first_names (next old.machine.context) old.machine.world.scheds.items) + length (promise_lines (turn_of old.machine.context)) =
    length-append (ended_lines old.machine.first_names (next old.machine.context) old.machine.world.scheds.items) (promise_lines (turn_of old.machine.context)) in
    ap (λ t. sounding t.machine.world) is
    ∙ same_after old.machine.context.time (next old.machine.context) old.machine.world (none_marked (next old.machine.context) old.machine.world.scheds.items (none_told old.machine.first_names (next old.machine.context) old.machine.world.scheds.items (omega (arith, lines, both, quiet))))

-- ---- a tape

-- where it comes again, a world sounds as the last one of a tape
abbrev pub IsAgain : Bool → List World → World → Type 0
IsAgain again tape w = IsTrue again → (before : List World) × (map sounding tape ≡ before ++ sounding w ∷ [])

pub none_again : (tape : List World) (w : World) → IsAgain false tape w
none_again tape w again = absurd cc

-- the world after a turn, behind the one before it
pub again_after : (again : Bool) (tape : List World) (old new : Told) → (IsTrue again → length new.lines ≡ length old.lines) → new ≡ after_turn old → turn_of old.machine.context ≡ Went → IsAgain again (tape ++ old.machine.world ∷ []) new.machine.world
again_after again tape old new quiet is went said = (
  map sounding tape,
  map-append sounding tape (old.machine.world ∷ []) ∙ ap (λ (x : World). map sounding tape ++ x ∷ []) (sym (quiet_turn old new is went (quiet said))),
)

-- The world in force comes next.
pub comes_next : (again : Bool) (view : SessionView) (tape : List World) (w : World) → Stands view tape → IsSupported view.told.machine.world.spec → view.told.machine.context.time ≤ 33555456 → sounding w ≡ sounding view.told.machine.world
    → IsAgain again tape view.told.machine.world → ComesNext again (map sounding tape) w
comes_next again view tape w stands supported short same last = record {
  few =
      let some = supported.quantum.low in
      let each : 32 * length tape ≤ quantum_of view.told.machine.world.spec * length tape = mul-le-mul_right (length tape) some in
      let time = stands.time in
      let long = length-map tape sounding in
      omega (arith, each, time, short, long);
  last = λ said. let found = last said in (found.0, found.1 ∙ ap (λ (x : World). found.0 ++ x ∷ []) (sym same));
}
