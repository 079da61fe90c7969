-- The calls on a parameter: what they change in a world, and why it refuses them. Times are frames.
use Rattle.std.specs.Prelude.{ℕ, List, map, if◌then◌else◌, Option, None, option_map, option_and_then}
use Rattle.wa_base.specs.declared.exceptions.Exc.{Exc}
use Rattle.wa_base.specs.declared.exceptions.Exc.TheVariants.{NotSupported, InvalidState, Range}
use Rattle.wa_base.specs.declared.graph_names.ParamId.{ParamId}
use Rattle.wa_base.specs.declared.graph_names.Rate.{Rate}
use Rattle.param_events.specs.declared.events.Event.{Event}
use Rattle.param_events.specs.declared.refusals.ParamErr.{ParamErr}
use Rattle.param_events.specs.declared.refusals.ParamErr.TheVariants.{NegativeTime, BadDuration, ShortCurve}
use Rattle.param_events.specs.Edits.{value_now, value_set, ramped, curved, cancelled, held_from, in_curve, event_refusal, curve_refusal, time_refusal}
use Rattle.param_events.specs.Timeline.{Timeline}
use Rattle.param_events.specs.Values.{value_at}
use Rattle.conn_graph.specs.Edges.{same_param}
use Rattle.meaning.specs.declared.automation.ParamEdit.{ParamEdit}
use Rattle.meaning.specs.declared.automation.ParamEdit.TheVariants as edit
use Rattle.meaning.specs.declared.params.Param.{Param}
use Rattle.meaning.specs.declared.world.World.{World}
use Rattle.meaning.specs.Lists.{listed}
use Rattle.meaning.specs.World.{find_param}

-- ---- what they change

-- the timeline after an edit
abbrev pub line_edited : ℕ → ParamEdit → Timeline → Timeline
line_edited now (edit.SetNow value) line = value_now line now value
line_edited now (edit.Set value time) line = value_set line now value time
line_edited now (edit.Ramp value time) line = ramped line now value time
line_edited now (edit.Curve points time duration) line = curved line now points time duration
line_edited now (edit.Cancel time) line = cancelled line now time
line_edited now (edit.Hold time) line = held_from line now time
line_edited now (edit.Rate rate) line = line

-- and the automation rate
abbrev pub rate_edited : ParamEdit → Rate → Rate
rate_edited (edit.Rate rate) old = rate
rate_edited other old = old

abbrev pub param_edited : ℕ → ParamEdit → Param → Param
param_edited now e p = record p { line = line_edited now e p.line; rate = rate_edited e p.rate }

abbrev pub with_params : World → List Param → World
with_params w params = record w { params = listed params }

-- a parameter is changed if it is the one that is meant
abbrev pub changed_param : ParamId → (Param → Param) → Param → Param
changed_param id change p = if same_param p.id id then change p else p

-- what an edit of a parameter at a time makes of a world
abbrev pub automated : World → ℕ → ParamId → ParamEdit → World
automated w now id e = with_params w (map (changed_param id (param_edited now e)) w.params.items)

-- the current value slot is set to the intrinsic value at a frame
abbrev pub slot_set : ℕ → Param → Param
slot_set first p = record p { line = record p.line { slot = value_at p.line.base p.line.events first } }

-- ---- why they are refused

-- why a timeline refuses an edit
abbrev pub line_refusal : ℕ → ParamEdit → List Event → Option ParamErr
line_refusal now (edit.SetNow value) events = in_curve now events
line_refusal now (edit.Set value time) events = event_refusal now time events
line_refusal now (edit.Ramp value time) events = event_refusal now time events
line_refusal now (edit.Curve points time duration) events = curve_refusal now points time duration events
line_refusal now (edit.Cancel time) events = time_refusal time
line_refusal now (edit.Hold time) events = time_refusal time
line_refusal now (edit.Rate rate) events = None

-- the exception that stands for it: what is left are a time in a curve and a curve over events
abbrev pub exception_of : ParamErr → Exc
exception_of NegativeTime = Range
exception_of BadDuration = Range
exception_of ShortCurve = InvalidState
exception_of other = NotSupported None

abbrev pub param_refusal : ℕ → ParamEdit → Param → Option Exc
param_refusal now e p = option_map exception_of (line_refusal now e p.line.events)

-- why a world refuses an edit of a parameter at a time
abbrev pub automation_refusal : World → ℕ → ParamId → ParamEdit → Option Exc
automation_refusal w now id e = option_and_then (param_refusal now e) (find_param w.params.items id)
