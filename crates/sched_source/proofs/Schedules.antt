-- What a schedule plays, by its content, its start and its end.
use Rattle.std.proofs.Common.{ℕ, ◌≡◌, ◌-◌, ◌<◌, ap, subst, ◌∙◌, Option, Some, IsTrue}
use Rattle.sched_source.specs.declared.content.Content.{Content}
use Rattle.sched_source.specs.Playback.{position, IsPlayable}
use Rattle.sched_source.specs.Schedule.{Schedule, is_between, earliest, content_end, later_end, end_frame}
use Rattle.sched_source.proofs.Positions.{played_inside}

-- a schedule of this content, start and end
pub record Is (schedule : Schedule) (content : Content) (start : ℕ) (end : Option ℕ) : Type 0 where
  pub has : schedule.content ≡ Some content
  pub begins : schedule.start ≡ Some start
  pub ends : end ≡ end_frame schedule

pub schedule_inside : (schedule : Schedule) (content : Content) (start : ℕ) (end : Option ℕ) (frame : ℕ) → Is schedule content start end → IsPlayable content
    → IsTrue (is_between (Some start) end frame) → position content (frame - start) < content.length
schedule_inside schedule content start end frame is playable h =
    let ends = is.ends
    ∙ ap (λ o. earliest (content_end o schedule.start) (later_end schedule.start schedule.stop)) is.has
    ∙ ap (λ o. earliest (content_end (Some content) o) (later_end o schedule.stop)) is.begins in
    played_inside content start schedule.stop frame playable (subst (λ o. IsTrue (is_between (Some start) o frame)) ends h)
