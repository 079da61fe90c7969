use Rattle.std.proofs.Common.{◌≡◌, ◌≢◌, ◌<◌, ◌+◌, ◌*◌, ◌%◌, ℕ, pos, slice_index_or}
use Rattle.session.proofs.rendered.place_channel.Given as goal

abbrev pub invariant-loop-sample : goal.invariant-loop-sample
invariant-loop-sample l =
    record {
      place : l.place ≡ l.sample-index * l.channels + l.channel;
      written : (frame : ℕ) → frame < l.sample-index → slice_index_or l.piece (frame * l.channels + l.channel) (pos 0) ≡ slice_index_or l.samples frame (pos 0);
      kept : (place : ℕ) → place % l.channels ≢ l.channel → slice_index_or l.piece place (pos 0) ≡ slice_index_or l.fn.piece place (pos 0);
    }
