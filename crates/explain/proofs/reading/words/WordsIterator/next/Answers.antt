use Rattle.std.proofs.Common.{◌<◌, length, rules, ap, arith}
use Rattle.explain.specs.LineReading.{words, words_left}
use Rattle.explain.proofs.WordCuts.{word_first, word_last}
use Rattle.explain.proofs.reading.words.WordsIterator.next.Goals as goal

pub returns-in-Some-clause-steps : goal.returns-in-Some-clause-steps
returns-in-Some-clause-steps c =
    let parts = c.in-Some.ensures.byte (omega arith) (λ w o h. h) in
    word_first c.args.self.now c.in_ok-text.text c.in-Some.word c.in-Some.rest c.in_ok-text.was parts.0 parts.1 parts.2

pub returns-in-Some-clause-goes : goal.returns-in-Some-clause-goes
returns-in-Some-clause-goes c =
    let parts = c.in-Some.ensures.byte (omega arith) (λ w o h. h) in
    let steps = word_first c.args.self.now c.in_ok-text.text c.in-Some.word c.in-Some.rest c.in_ok-text.was parts.0 parts.1 parts.2 in
    let fewer : length (words c.in-Some.rest.now) < length (words_left c.args.self.now) = omega (arith, ap (λ ws. length ws) steps) in
    search rules

pub returns-in-None-clause-steps : goal.returns-in-None-clause-steps
returns-in-None-clause-steps c = word_last c.args.self.now c.in_ok-text.text c.in_ok-text.was c.in-None.ensures.cases

pub returns-in-None-clause-goes : goal.returns-in-None-clause-goes
returns-in-None-clause-goes c =
    let steps = word_last c.args.self.now c.in_ok-text.text c.in_ok-text.was c.in-None.ensures.cases in
    let fewer : 0 < length (words_left c.args.self.now) = omega (arith, ap (λ ws. length ws) steps) in
    search rules
