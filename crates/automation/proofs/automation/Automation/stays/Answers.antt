use Rattle.std.proofs.Common.{rules, ℕ, List, ◌≡◌, ◌<◌, ◌≤◌, ◌+◌, ◌⊎◌, length, map, slice_index_or, inl, inr, sym, ◌∙◌, ap, arith, subst}
use Rattle.std.specs.Vec.{vec_len}
use Rattle.std.specs.Int.{w32}
use Rattle.std.proofs.lemmas.Int.{to_z-of_z}
use Rattle.std.proofs.lemmas.List.{get_or_default}
use Rattle.law_base.specs.Members.{IsIn}
use Rattle.meaning.specs.declared.params.Param.{Param}
use Rattle.wa_base.specs.Contexts.{IsQuantumSize}
use Rattle.automation.specs.Levels.{LevelView, HasRoom, IsLevelOf, StaysAt, level_at, level_of, no_level}
use Rattle.automation.specs.Ready.{AutomationView, IsHeld, RunningView, param_of}
use Rattle.automation.proofs.Places.{in_list}
use Rattle.automation.proofs.automation.Automation.stays.Goals as goal

-- each parameter has a level, with room
module _ (a : AutomationView) (first : ℕ) (params : List Param) (held : IsHeld params first a) (place : ℕ) (low : place < length params) (d : Param) where
  abbrev p : Param
  p = slice_index_or params place d

  has_level : (p.id.node.0 < length a.levels) × HasRoom a.quantum (level_of a.levels p.id.node.0)
  has_level = held.room p (in_list params place d low)

  -- what runs until a frame has the same level up to it, and what does not run for ever
  level_until : (until limit : ℕ) → limit ≤ until → ((r : RunningView) × IsIn r a.running × (r.param ≡ place) × (r.until ≡ until)) ⊎ (IsIn place (map param_of a.running) → ⊥)
      → (later : ℕ) → first ≤ later → later + a.quantum ≤ limit → IsLevelOf a.quantum p later (level_of a.levels p.id.node.0)
  level_until until limit enough (inl runs) later from within =
      let r : RunningView = runs.0 in
      subst (λ k. IsLevelOf a.quantum (slice_index_or params k d) later (level_of a.levels (slice_index_or params k d).id.node.0)) runs.2
      ((held.rests r runs.1).level d later from (let ends = runs.3 in omega (arith, within, enough, ends)))
  level_until until limit enough (inr stays) later from within = elim (held.others place d low) [
    | inl runs ↦ absurd (stays runs)
    | inr keeps ↦ keeps later from
  ]

pub index-requires : goal.index-requires
index-requires c =
    let a : AutomationView = c.args.self.now in
    let d : Param = c.index-params-place.result in
    let long : vec_len c.self.inside.levels ≡ length c.self.inside.levels.items = search rules in
    let low = subst (λ (x : AutomationView). (slice_index_or c.args.params.now c.args.place d).id.node.0 < length x.levels) (sym c.self.view_is)
    (has_level a c.requires.held.0 c.args.params.now c.requires.held.1 c.args.place c.requires.there d).0 in
    omega (arith, low, long)

pub values-requires : goal.values-requires
values-requires c =
    let a : AutomationView = c.args.self.now in
    let d : Param = c.index-params-place.result in
    let node : ℕ = (slice_index_or c.args.params.now c.args.place d).id.node.0 in
    let has = has_level a c.requires.held.0 c.args.params.now c.requires.held.1 c.args.place c.requires.there d in
    let level : LevelView = c.index.result.now in
    let is = c.index.ensures ∙ ap (λ (x : AutomationView). slice_index_or x.levels node level) c.self.view_is ∙ get_or_default a.levels node level no_level has.0 in
    subst (λ (l : LevelView). IsQuantumSize (length l.values)) (sym is) (subst IsQuantumSize (ap (λ (x : AutomationView). x.quantum) c.self.view_is ∙ sym has.1) c.self.invariant)

pub returns-in-Steady : goal.returns-in-Steady
returns-in-Steady c first d held later m from within now =
    let a : AutomationView = c.args.self.now in
    let e : Param = c.index-params-place.result in
    let p : Param = slice_index_or c.args.params.now c.args.place e in
    let node : ℕ = p.id.node.0 in
    let has = has_level a first c.args.params.now held c.args.place c.requires.there e in
    let level : LevelView = c.index.result.now in
    let is = c.index.ensures ∙ ap (λ (x : AutomationView). slice_index_or x.levels node level) c.self.view_is ∙ get_or_default a.levels node level no_level has.0 in
    let own = level_until a first c.args.params.now held c.args.place c.requires.there e c.rests_until.result c.args.until (omega (arith, c.if-rests_until-until.false)) c.rests_until.ensures in
    subst (λ (x : Param). StaysAt a.quantum first c.args.until x c.in-Steady.value) (get_or_default c.args.params.now c.args.place e d c.requires.there) (λ l k f w n. sym ((own l f w).values k n)
    ∙ ap (λ (x : LevelView). level_at x k) (sym is)
    ∙ c.in-Steady.ensures k (subst (λ j. k < j) (sym has.1 ∙ ap (λ (x : LevelView). length x.values) (sym is)) n)) later m from within now
    ∙ sym (to_z-of_z w32 c.in-Steady.value (search rules))
