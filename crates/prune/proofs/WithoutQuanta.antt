-- A world and the one without the nodes that are not kept stay so by a render quantum.
use Rattle.std.proofs.Common.{ℕ, ◌≡◌, Bool, true, false, not, map, refl, sym, ◌∙◌, ap}
use Rattle.std.specs.Prelude.{◌&&◌, nat_le, if◌then◌else◌}
use Rattle.std.specs.Option.{option_map_or}
use Rattle.sched_source.specs.Schedule.{Schedule, end_frame}
use Rattle.meaning.specs.declared.params.Param.{Param}
use Rattle.meaning.specs.declared.scheds.Play.{Play}
use Rattle.meaning.specs.declared.world.World.{World}
use Rattle.meaning.specs.Automation.{with_params, slot_set}
use Rattle.meaning.specs.Lists.{Listed, listed}
use Rattle.meaning.specs.Plays.{rescheduled}
use Rattle.prune.proofs.Flags.{Flags}
use Rattle.prune.proofs.Filtered.{map_both}
use Rattle.prune.proofs.Without.{is_kept_param, is_kept_play, renumbered_param, renumbered_play, IsWithout}

-- ---- a render quantum

-- a source ends before a frame, and has not ended before
abbrev pub ends_by : ℕ → Schedule → Bool
ends_by next sched = not sched.ended && option_map_or (λ end. nat_le end next) (end_frame sched) false

abbrev pub marked : ℕ → Play → Play
marked next play = if ends_by next play.sched then rescheduled play (record play.sched { ended = true }) else play

-- the sources that end before the quantum that begins at a frame are marked
abbrev pub ended_marked : ℕ → World → World
ended_marked next w = record w { scheds = listed (map (marked next) w.scheds.items) }

-- the current values become the intrinsic values at a frame
abbrev pub slots_set : ℕ → World → World
slots_set first w = with_params w (map (slot_set first) w.params.items)

-- a world after the quantum that begins at a frame, with the first frame of the next one
abbrev pub after : ℕ → ℕ → World → World
after first next w = ended_marked next (slots_set first w)

-- ---- what it leaves

pub slots_without : (fs : Flags) (part whole : World) (first : ℕ) → IsWithout fs part whole → IsWithout fs (slots_set first part) (slots_set first whole)
slots_without fs part whole first is = record {
  first = is.first;
  spec = is.spec;
  nodes = is.nodes;
  graph = is.graph;
  params =
      ap (λ (l : Listed Param). listed (map (slot_set first) l.items)) is.params
      ∙ ap listed (sym (map_both (is_kept_param fs) (renumbered_param fs) (slot_set first) (slot_set first) whole.params.items (λ p. refl) (λ p kept. refl)));
  scheds = is.scheds;
  store = is.store;
  closed = is.closed;
}

marked_kept : (fs : Flags) (next : ℕ) (p : Play) → is_kept_play fs (marked next p) ≡ is_kept_play fs p
marked_kept fs next p = by_test (ends_by next p.sched)
  where
    by_test : (b : Bool) → is_kept_play fs (if b then rescheduled p (record p.sched { ended = true }) else p) ≡ is_kept_play fs p
    by_test true = refl
    by_test false = refl

marked_named : (fs : Flags) (next : ℕ) (p : Play) → renumbered_play fs (marked next p) ≡ marked next (renumbered_play fs p)
marked_named fs next p = by_test (ends_by next p.sched)
  where
    by_test : (b : Bool)
        → renumbered_play fs (if b then rescheduled p (record p.sched { ended = true }) else p) ≡ (if b then rescheduled (renumbered_play fs p) (record p.sched { ended = true }) else renumbered_play fs p)
    by_test true = refl
    by_test false = refl

pub marked_without : (fs : Flags) (part whole : World) (next : ℕ) → IsWithout fs part whole → IsWithout fs (ended_marked next part) (ended_marked next whole)
marked_without fs part whole next is = record {
  first = is.first;
  spec = is.spec;
  nodes = is.nodes;
  graph = is.graph;
  params = is.params;
  scheds =
      ap (λ (l : Listed Play). listed (map (marked next) l.items)) is.scheds
      ∙ ap listed (sym (map_both (is_kept_play fs) (renumbered_play fs) (marked next) (marked next) whole.scheds.items (marked_kept fs next) (λ p kept. marked_named fs next p)));
  store = is.store;
  closed = is.closed;
}

pub after_quantum : (fs : Flags) (part whole : World) (first next : ℕ) → IsWithout fs part whole → IsWithout fs (after first next part) (after first next whole)
after_quantum fs part whole first next is = marked_without fs _ _ next (slots_without fs part whole first is)
