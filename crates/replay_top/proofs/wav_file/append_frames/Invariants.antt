use Rattle.std.proofs.Common.{◌≡◌, ◌≤◌, ◌-◌, ◌*◌, IsTrue, take}
use Rattle.io_edge.specs.Paths.{AppendsWhole}
use Rattle.session.specs.Rows.{interleaved}
use Rattle.wav_io.specs.WavText.{samples_bytes}
use Rattle.replay_top.proofs.wav_file.append_frames.Given as goal

abbrev pub invariant-loop-at : goal.invariant-loop-at
invariant-loop-at g l = record {
  reads : g.F.Files.read_faults l.files ≡ g.F.Files.read_faults l.initial.files;
  later : g.F.Files.write_faults l.initial.files ≤ g.F.Files.write_faults l.files;
  tells : g.F.Files.tells l.files ≡ g.F.Files.tells l.initial.files;
  within : l.at ≤ l.frames;
  added : IsTrue (g.F.Files.tells l.initial.files)
      → AppendsWhole (g.F.Files.paths l.initial.files) (g.F.Files.paths l.files) l.reading.out (samples_bytes l.reading.bits (take (l.at * l.channels) (interleaved l.rendered.spec l.rendered.samples)));
}

abbrev pub decreases-loop-at : goal.decreases-loop-at
decreases-loop-at g l = l.frames - l.at
