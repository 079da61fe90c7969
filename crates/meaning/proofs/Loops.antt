-- The loop of a source, of which a part is set.
use Rattle.std.proofs.Common.{◌≡◌, Bool, true, false, Option, Some, None, sym, ap}
use Rattle.std.specs.Prelude.{if◌then◌else◌, is_some, option_map, unwrap_or}
use Rattle.wa_base.specs.declared.exceptions.Exc.TheVariants.{WrongType}
use Rattle.sched_source.specs.declared.content.Content.{Content}
use Rattle.sched_source.specs.declared.content.Loop.{Loop}
use Rattle.sched_source.specs.Playback.{looped}
use Rattle.sched_source.specs.Schedule.{Schedule, with_loop, loop_of, loop_refusal}
use Rattle.meaning.specs.declared.scheds.LoopPart.{LoopPart}
use Rattle.meaning.specs.declared.scheds.Play.{Play}
use Rattle.meaning.specs.declared.sources.SourceEdit.TheVariants as edit
use Rattle.meaning.specs.declared.world.World.{World}
use Rattle.meaning.specs.Plays.{with_part, with_loop_part}
use Rattle.meaning.specs.Sources.{source_refusal}

-- the loop that a source has, with the part, is the loop that it gets
pub looped_part : (sched : Schedule) (points : Loop) (part : LoopPart) → loop_of sched ≡ Some points → with_loop (with_part part points) sched ≡ with_loop_part part sched
looped_part sched points part is = ap (λ content. record sched { content = content }) (by_content sched.content is)
  where
    by_content : (content : Option Content) → option_map (λ (c : Content). c.points) content ≡ Some points
        → looped (with_part part points) content ≡ option_map (λ (c : Content). record c { points = with_part part c.points }) content
    by_content None is = absurd cc
    by_content (Some c) is = ap (λ p. Some (record c { points = with_part part p })) (sym (ap (λ o. unwrap_or o points) is))

-- where it is not refused, the schedule does not refuse it
pub free_loop : (w : World) (part : LoopPart) (play : Play) → source_refusal w (edit.SetLoop part) (Some play) ≡ None → loop_refusal play.sched ≡ None
free_loop w part play fine = by_source (is_some play.sched.content) fine
  where
    by_source : (b : Bool) → (if b then loop_refusal play.sched else Some WrongType) ≡ None → loop_refusal play.sched ≡ None
    by_source true h = h
    by_source false h = absurd cc
