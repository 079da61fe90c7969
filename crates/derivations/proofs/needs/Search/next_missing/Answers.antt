use Rattle.std.proofs.Common.{ℕ, List, refl, subst}
use Rattle.meaning.specs.declared.world.World.{World}
use Rattle.explain.specs.declared.facts.Key.{Key}
use Rattle.explain.specs.declared.facts.Key.TheVariants.{Count, Inlet, Par, Hist, Out}
use Rattle.explain.specs.declared.facts.Fact.{Fact}
use Rattle.explain.specs.Facts.{IsKeyOf}
use Rattle.derivations.specs.Contexts.{tape_in}
use Rattle.derivations.proofs.Answering.{none_as, some_as, on_some_as}
use Rattle.derivations.proofs.Needed.{past_of, past_by, known_by, missing_by}
use Rattle.derivations.proofs.needs.Search.next_missing.Goals as goal

pub next_of_count-requires : goal.next_of_count-requires
next_of_count-requires c =
    let q : ℕ = c.args.context.quantum in
    let tape : List World = tape_in c.args.context in
    let facts : List Fact = c.args.context.known.now in
    let form : Key = Count c.in-Count.quantum c.in-Count.end c.in-Count.output in
    let is : IsKeyOf q tape form = subst (IsKeyOf q tape) c.in-Count.is c.requires.key in
    record { ready = c.requires.ready; there = is.quantum; end = is.place.end; before = past_of q tape facts c.args.self.now.key form c.in-Count.is c.args.self.now.place c.requires.searched }

pub returns-in-Count : goal.returns-in-Count
returns-in-Count c =
    let q : ℕ = c.args.context.quantum in
    let tape : List World = tape_in c.args.context in
    let facts : List Fact = c.args.context.known.now in
    let key : Key = c.args.self.now.key in
    let form : Key = Count c.in-Count.quantum c.in-Count.end c.in-Count.output in
    record {
      none = none_as c.next_of_count.result (known_by q tape facts key form c.in-Count.is) c.next_of_count.ensures.none;
      some = some_as c.next_of_count.result (missing_by q tape facts key form c.in-Count.is) c.next_of_count.ensures.some;
      searched = on_some_as c.next_of_count.result (past_by q tape facts key form c.in-Count.is c.next_of_count.new.place) c.next_of_count.ensures.after;
      same = refl;
    }

pub next_of_inlet-requires : goal.next_of_inlet-requires
next_of_inlet-requires c =
    let q : ℕ = c.args.context.quantum in
    let tape : List World = tape_in c.args.context in
    let facts : List Fact = c.args.context.known.now in
    let form : Key = Inlet c.in-Inlet.frame c.in-Inlet.end c.in-Inlet.input c.in-Inlet.channel in
    let is : IsKeyOf q tape form = subst (IsKeyOf q tape) c.in-Inlet.is c.requires.key in
    record { ready = c.requires.ready; there = is.quantum; node = is.place.0.node; before = past_of q tape facts c.args.self.now.key form c.in-Inlet.is c.args.self.now.place c.requires.searched }

pub returns-in-Inlet : goal.returns-in-Inlet
returns-in-Inlet c =
    let q : ℕ = c.args.context.quantum in
    let tape : List World = tape_in c.args.context in
    let facts : List Fact = c.args.context.known.now in
    let key : Key = c.args.self.now.key in
    let form : Key = Inlet c.in-Inlet.frame c.in-Inlet.end c.in-Inlet.input c.in-Inlet.channel in
    record {
      none = none_as c.next_of_inlet.result (known_by q tape facts key form c.in-Inlet.is) c.next_of_inlet.ensures.none;
      some = some_as c.next_of_inlet.result (missing_by q tape facts key form c.in-Inlet.is) c.next_of_inlet.ensures.some;
      searched = on_some_as c.next_of_inlet.result (past_by q tape facts key form c.in-Inlet.is c.next_of_inlet.new.place) c.next_of_inlet.ensures.after;
      same = refl;
    }

pub next_of_param-requires : goal.next_of_param-requires
next_of_param-requires c =
    let q : ℕ = c.args.context.quantum in
    let tape : List World = tape_in c.args.context in
    let facts : List Fact = c.args.context.known.now in
    let form : Key = Par c.in-Par.frame c.in-Par.node c.in-Par.name in
    let is : IsKeyOf q tape form = subst (IsKeyOf q tape) c.in-Par.is c.requires.key in
    record { ready = c.requires.ready; there = is.quantum; node = is.place.0; before = past_of q tape facts c.args.self.now.key form c.in-Par.is c.args.self.now.place c.requires.searched }

pub returns-in-Par : goal.returns-in-Par
returns-in-Par c =
    let q : ℕ = c.args.context.quantum in
    let tape : List World = tape_in c.args.context in
    let facts : List Fact = c.args.context.known.now in
    let key : Key = c.args.self.now.key in
    let form : Key = Par c.in-Par.frame c.in-Par.node c.in-Par.name in
    record {
      none = none_as c.next_of_param.result (known_by q tape facts key form c.in-Par.is) c.next_of_param.ensures.none;
      some = some_as c.next_of_param.result (missing_by q tape facts key form c.in-Par.is) c.next_of_param.ensures.some;
      searched = on_some_as c.next_of_param.result (past_by q tape facts key form c.in-Par.is c.next_of_param.new.place) c.next_of_param.ensures.after;
      same = refl;
    }

pub next_of_history-requires : goal.next_of_history-requires
next_of_history-requires c =
    let q : ℕ = c.args.context.quantum in
    let tape : List World = tape_in c.args.context in
    let facts : List Fact = c.args.context.known.now in
    let form : Key = Hist c.in-Hist.frame c.in-Hist.node c.in-Hist.channel in
    let is : IsKeyOf q tape form = subst (IsKeyOf q tape) c.in-Hist.is c.requires.key in
    record { ready = c.requires.ready; there = is.quantum; node = is.place.0; history = is.place.1; channel = is.place.2; before = past_of q tape facts c.args.self.now.key form c.in-Hist.is c.args.self.now.place c.requires.searched }

pub returns-in-Hist : goal.returns-in-Hist
returns-in-Hist c =
    let q : ℕ = c.args.context.quantum in
    let tape : List World = tape_in c.args.context in
    let facts : List Fact = c.args.context.known.now in
    let key : Key = c.args.self.now.key in
    let form : Key = Hist c.in-Hist.frame c.in-Hist.node c.in-Hist.channel in
    record {
      none = none_as c.next_of_history.result (known_by q tape facts key form c.in-Hist.is) c.next_of_history.ensures.none;
      some = some_as c.next_of_history.result (missing_by q tape facts key form c.in-Hist.is) c.next_of_history.ensures.some;
      searched = on_some_as c.next_of_history.result (past_by q tape facts key form c.in-Hist.is c.next_of_history.new.place) c.next_of_history.ensures.after;
      same = refl;
    }

pub next_of_output-requires : goal.next_of_output-requires
next_of_output-requires c =
    let q : ℕ = c.args.context.quantum in
    let tape : List World = tape_in c.args.context in
    let facts : List Fact = c.args.context.known.now in
    let form : Key = Out c.in-Out.frame c.in-Out.end c.in-Out.output c.in-Out.channel in
    let is : IsKeyOf q tape form = subst (IsKeyOf q tape) c.in-Out.is c.requires.key in
    record { ready = c.requires.ready; there = is.quantum; output = is.place.0; before = past_of q tape facts c.args.self.now.key form c.in-Out.is c.args.self.now.place c.requires.searched }

pub returns-in-Out : goal.returns-in-Out
returns-in-Out c =
    let q : ℕ = c.args.context.quantum in
    let tape : List World = tape_in c.args.context in
    let facts : List Fact = c.args.context.known.now in
    let key : Key = c.args.self.now.key in
    let form : Key = Out c.in-Out.frame c.in-Out.end c.in-Out.output c.in-Out.channel in
    record {
      none = none_as c.next_of_output.result (known_by q tape facts key form c.in-Out.is) c.next_of_output.ensures.none;
      some = some_as c.next_of_output.result (missing_by q tape facts key form c.in-Out.is) c.next_of_output.ensures.some;
      searched = on_some_as c.next_of_output.result (past_by q tape facts key form c.in-Out.is c.next_of_output.new.place) c.next_of_output.ensures.after;
      same = refl;
    }
