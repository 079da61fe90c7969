use Rattle.std.proofs.Common.{ℕ, List, length, ◌≡◌, ◌<◌, ◌+◌, IsSome, ap, ap₂, sym, subst, ◌∙◌}
use Rattle.std.proofs.lemmas.Result.{IfOk-weaker}
use Rattle.wa_base.specs.declared.contexts.ContextSpec.{ContextSpec}
use Rattle.ctx_state.specs.Context.{next}
use Rattle.name_book.specs.Book.{first_name_of}
use Rattle.meaning.specs.declared.scheds.Play.{Play}
use Rattle.control_side.specs.Machine.{Machine, machine_of}
use Rattle.control_side.specs.Steady.{AreOpen}
use Rattle.transcript.specs.declared.lines.Line.{Line}
use Rattle.control_side.specs.Turns.{ended_lines}
use Rattle.control_side.proofs.Marks.{All-nodes}
use Rattle.control_side.proofs.Open.{NoneEnds, no_lines, none_told, same_world}
use Rattle.control_side.proofs.control.Control.lines_of_quantum.Goals as goal

-- before a frame up to which none ends
still : (next until : ℕ) (plays : List Play) → AreOpen until plays → next < until → NoneEnds next plays
still next until plays are early i d low = are next i d early low

pub ended_lines-requires : goal.ended_lines-requires
ended_lines-requires c = rw c.as_slice.ensures (All-nodes (λ node. IsSome (first_name_of c.self.inside.book.first_names node)) c.self.inside.world.scheds.items c.self.invariant.0.named)

pub returns-then-next-self-clause-lines : goal.returns-then-next-self-clause-lines
returns-then-next-self-clause-lines c =
    let m : Machine = machine_of c.self.inside.context c.self.inside.world c.self.inside.book in
    let none : NoneEnds (next m.context) m.world.scheds.items = still (next m.context) c.self.inside.open_until m.world.scheds.items c.self.invariant.1 (subst (λ n. n < c.self.inside.open_until) (ap₂ (λ (a b : ℕ). a + b) c.now.ensures.now (c.from.ensures ∙ ap (λ (x : ContextSpec). x.quantum) c.spec.ensures)) c.if-next-self.true) in
    c.new.ensures.items ∙ sym (no_lines m.first_names (next m.context) m.world.scheds.items none) ∙ ap (λ (x : Machine). ended_lines x.first_names (next x.context) x.world.scheds.items) c.self.view_is

pub returns-then-next-self-clause-none : goal.returns-then-next-self-clause-none
returns-then-next-self-clause-none c few =
    let m : Machine = machine_of c.self.inside.context c.self.inside.world c.self.inside.book in
    let none : NoneEnds (next m.context) m.world.scheds.items = still (next m.context) c.self.inside.open_until m.world.scheds.items c.self.invariant.1 (subst (λ n. n < c.self.inside.open_until) (ap₂ (λ (a b : ℕ). a + b) c.now.ensures.now (c.from.ensures ∙ ap (λ (x : ContextSpec). x.quantum) c.spec.ensures)) c.if-next-self.true) in
    rw (← c.self.view_is) (same_world (next m.context) c.self.inside.world none)

pub returns-clause-none : goal.returns-clause-none
returns-clause-none c =
    let m : Machine = machine_of c.self.inside.context c.self.inside.world c.self.inside.book in
    let frame : c.now.result + c.from.result ≡ next m.context = ap₂ (λ (a b : ℕ). a + b) c.now.ensures.now (c.from.ensures ∙ ap (λ (x : ContextSpec). x.quantum) c.spec.ensures) in
    rw (← c.self.view_is) (IfOk-weaker c.ended_lines.result _ _
    (λ lines is few. same_world (next m.context) c.self.inside.world
    (none_told m.first_names (next m.context) c.self.inside.world.scheds.items
    (sym (ap₂ (λ (n : ℕ) (plays : List Play). length (ended_lines m.first_names n plays)) frame c.as_slice.ensures) ∙ ap (λ (ls : List Line). length ls) (sym is) ∙ few)))
    c.ended_lines.ensures)
