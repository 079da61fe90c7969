use Rattle.std.proofs.Common.{◌≡◌, List, Some, map, ap, sym, ◌∙◌}
use Rattle.std.specs.Prelude.{slice_get, option_and_then}
use Rattle.buffer_store.specs.declared.buffers.Buffer.{Buffer as AudioBuffer}
use Rattle.meaning.specs.declared.scheds.Play.{Play}
use Rattle.meaning.specs.World.{plain, find_play, frames_in}
use Rattle.meaning.specs.Plays.{play_edited, acquired, frozen_in}
use Rattle.meaning.specs.Sources.{with_plays, with_store, changed_play}
use Rattle.meaning.proofs.Sourcing.{found_buffer, acquires_there}
use Rattle.meaning.proofs.FirstItems.{plays_once}
use Rattle.meaning.proofs.Changing.{rescheduled_is}
use Rattle.meaning.proofs.world.World.edit_source.Goals as goal

pub frames_of-frames-requires-clause-buffer : goal.frames_of-frames-requires-clause-buffer
frames_of-frames-requires-clause-buffer c = found_buffer c.args.self.now c.requires.valid c.in-Some.place c.at.result.now c.at.ensures

pub freeze-requires : goal.freeze-requires
freeze-requires c =
    acquires_there c.args.self.now.store c.args.edit c.at.result.now c.in-Some-acquired.buffer (found_buffer c.args.self.now c.requires.valid c.in-Some.place c.at.result.now c.at.ensures)
    (sym c.acquires-acquired.ensures ∙ c.in-Some-acquired.is)

-- the schedule is changed in its place, and the store is the one that is left
pub returns-in-Some-acquired-clause-edited : goal.returns-in-Some-acquired-clause-edited
returns-in-Some-acquired-clause-edited c =
    let play : Play = c.at.result.now in
    let found : find_play c.args.self.now.scheds.items c.args.node.0 ≡ Some play = sym c.find.ensures.item ∙ ap (option_and_then (slice_get c.args.self.now.scheds.items)) c.in-Some.is ∙ c.at.ensures in
    let edited : c.edit.new.self ≡ play_edited (frames_in c.args.self.now.store play.buffer) c.args.now c.args.edit play =
    c.edit.ensures ∙ ap (λ frames. play_edited frames c.args.now c.args.edit play) c.frames_of-frames.ensures.value in
    let plays = rescheduled_is c.args.self.now c.args.node.0 c.in-Some.place play c.edit.new.self (λ p. play_edited (frames_in c.args.self.now.store p.buffer) c.args.now c.args.edit p)
    (plays_once c.args.self.now c.requires.valid) (sym c.find.ensures.place ∙ c.in-Some.is) c.at.ensures edited in
    let store : c.freeze.new.self ≡ acquired c.args.self.now.store c.args.edit (find_play c.args.self.now.scheds.items c.args.node.0) =
    c.freeze.ensures ∙ ap (frozen_in c.args.self.now.store) (sym c.in-Some-acquired.is ∙ c.acquires-acquired.ensures) ∙ ap (acquired c.args.self.now.store c.args.edit) (sym found) in
    ap (λ (ps : List Play). with_plays (with_store (plain c.args.self.now) c.freeze.new.self) ps) plays
    ∙ ap (λ (bs : List AudioBuffer). with_plays (with_store (plain c.args.self.now) bs) (map (changed_play c.args.node.0 (λ p. play_edited (frames_in c.args.self.now.store p.buffer) c.args.now c.args.edit p)) c.args.self.now.scheds.items)) store

pub returns-in_default-acquired-clause-edited : goal.returns-in_default-acquired-clause-edited
returns-in_default-acquired-clause-edited c =
    let play : Play = c.at.result.now in
    let found : find_play c.args.self.now.scheds.items c.args.node.0 ≡ Some play = sym c.find.ensures.item ∙ ap (option_and_then (slice_get c.args.self.now.scheds.items)) c.in-Some.is ∙ c.at.ensures in
    let edited : c.edit.new.self ≡ play_edited (frames_in c.args.self.now.store play.buffer) c.args.now c.args.edit play =
    c.edit.ensures ∙ ap (λ frames. play_edited frames c.args.now c.args.edit play) c.frames_of-frames.ensures.value in
    let plays = rescheduled_is c.args.self.now c.args.node.0 c.in-Some.place play c.edit.new.self (λ p. play_edited (frames_in c.args.self.now.store p.buffer) c.args.now c.args.edit p)
    (plays_once c.args.self.now c.requires.valid) (sym c.find.ensures.place ∙ c.in-Some.is) c.at.ensures edited in
    let store : c.args.self.now.store ≡ acquired c.args.self.now.store c.args.edit (find_play c.args.self.now.scheds.items c.args.node.0) =
    ap (frozen_in c.args.self.now.store) (sym c.in_default-acquired.is ∙ c.acquires-acquired.ensures) ∙ ap (acquired c.args.self.now.store c.args.edit) (sym found) in
    ap (λ (ps : List Play). with_plays (with_store (plain c.args.self.now) c.args.self.now.store) ps) plays
    ∙ ap (λ (bs : List AudioBuffer). with_plays (with_store (plain c.args.self.now) bs) (map (changed_play c.args.node.0 (λ p. play_edited (frames_in c.args.self.now.store p.buffer) c.args.now c.args.edit p)) c.args.self.now.scheds.items)) store
