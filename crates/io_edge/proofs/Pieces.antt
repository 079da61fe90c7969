-- Several turns of reading, writing and appending, one after another.
use Rattle.std.proofs.Common.{◌≡◌, ◌≤◌, ◌+◌, ℕ, List, [], ◌++◌, length, take, drop, Option, Some, None, sym, ap, refl, ◌∙◌, inl, inr, arith, append_assoc, append-nil}
use Rattle.std.proofs.lemmas.List.{take_min, take-append-le}
use Rattle.std.proofs.Math.Seq.{take-add, take-append-add}
use Rattle.std.specs.Prelude.{min, unwrap_or}
use Rattle.std.specs.Io.KnownBytes.{Appends, Consumes}
use Rattle.io_edge.specs.Paths.{Paths, SameOthers, Sets, AppendsWhole, AppendsPart, bytes_at}
use Rattle.io_edge.specs.Told.{IsToldAs}

-- what was read and what is left is all that there was
pub told_with_rest : (all left : Option (List ℕ)) (bytes : List ℕ) → Consumes all left bytes → IsToldAs all (bytes ++ unwrap_or left [])
told_with_rest None left bytes read = tt
told_with_rest (Some xs) None bytes read = absurd read
told_with_rest (Some xs) (Some ys) bytes read = read

pub more_appended : (first old new : Option (List ℕ)) (text : List ℕ) (at n : ℕ) → Appends first old (take at text) → Appends old new (take n (drop at text)) → Appends first new (take (at + n) text)
more_appended None old new text at n before now = tt
more_appended (Some xs) None new text at n before now = absurd before
more_appended (Some xs) (Some ys) None text at n before now = absurd now
more_appended (Some xs) (Some ys) (Some zs) text at n before now =
    now ∙ ap (λ (r : List ℕ). r ++ take n (drop at text)) before ∙ append_assoc xs (take at text) (take n (drop at text)) ∙ ap (λ (r : List ℕ). xs ++ r) (sym (take-add at n text))

pub none_added : (paths : Paths) (path : List ℕ) → AppendsWhole paths paths path []
unfolding AppendsWhole
none_added paths path = inl (refl, λ q. refl)

pub all_added : (old new : Paths) (path bytes : List ℕ) → Sets old new path (bytes_at old path ++ bytes) → AppendsWhole old new path bytes
unfolding AppendsWhole
all_added old new path bytes sets = inr sets

bytes_at-whole : (old new : Paths) (path bytes : List ℕ) → AppendsWhole old new path bytes → bytes_at new path ≡ bytes_at old path ++ bytes
unfolding AppendsWhole
bytes_at-whole old new path bytes (inl (none, same)) = ap (λ (o : Option (List ℕ)). unwrap_or o []) (same path) ∙ sym (append-nil (bytes_at old path)) ∙ ap (λ (r : List ℕ). bytes_at old path ++ r) (sym none)
bytes_at-whole old new path bytes (inr sets) = ap (λ (o : Option (List ℕ)). unwrap_or o []) sets.here

SameOthers-whole : (old new : Paths) (path bytes : List ℕ) → AppendsWhole old new path bytes → SameOthers old new path
unfolding AppendsWhole
SameOthers-whole old new path bytes (inl (none, same)) = λ q other. same q
SameOthers-whole old new path bytes (inr sets) = sets.others

Sets-after : (old mid new : Paths) (path done piece : List ℕ) → AppendsWhole old mid path done → Sets mid new path (bytes_at mid path ++ piece)
    → Sets old new path (bytes_at old path ++ (done ++ piece))
Sets-after old mid new path done piece before now = record {
  here = now.here ∙ ap (λ (r : List ℕ). Some (r ++ piece)) (bytes_at-whole old mid path done before) ∙ ap Some (append_assoc (bytes_at old path) done piece);
  others = λ q other. now.others q other ∙ SameOthers-whole old mid path done before q other;
}

-- a piece was added after those before it
pub AppendsWhole-trans : (old mid new : Paths) (path done piece : List ℕ) → AppendsWhole old mid path done → AppendsWhole mid new path piece → AppendsWhole old new path (done ++ piece)
unfolding AppendsWhole
AppendsWhole-trans old mid new path done piece (inl (none, before)) (inl (nothing, now)) =
    inl (ap (λ (r : List ℕ). r ++ piece) none ∙ nothing, λ q. now q ∙ before q)
AppendsWhole-trans old mid new path done piece (inr sets) (inl (nothing, now)) = inr (record {
  here = now path ∙ sets.here ∙ ap (λ (r : List ℕ). Some (bytes_at old path ++ r)) (sym (append-nil done) ∙ ap (λ (r : List ℕ). done ++ r) (sym nothing));
  others = λ q other. now q ∙ sets.others q other;
})
AppendsWhole-trans old mid new path done piece before (inr now) = inr (Sets-after old mid new path done piece before now)

-- what stands before a piece and a front part of it is a front part of the whole
front_of_whole : (done piece rest whole : List ℕ) (n : ℕ) → (done ++ piece) ++ rest ≡ whole → (k : ℕ) × (done ++ take n piece ≡ take k whole)
front_of_whole done piece rest whole n is =
    let some = min n (length piece) in
    let within : some ≤ length piece = omega arith in
    let front : take n piece ≡ take some (piece ++ rest) = sym (take_min n piece) ∙ sym (take-append-le some piece rest within) in
    (length done + some, ap (λ (r : List ℕ). done ++ r) front ∙ sym (take-append-add done (piece ++ rest) some) ∙ ap (take (length done + some)) (sym (append_assoc done piece rest) ∙ is))

-- an append failed within a piece, after those before it
pub AppendsPart-after : (old mid new : Paths) (path done piece rest whole : List ℕ) → AppendsWhole old mid path done → AppendsPart mid new path piece → (done ++ piece) ++ rest ≡ whole
    → AppendsPart old new path whole
unfolding AppendsWhole
AppendsPart-after old mid new path done piece rest whole (inl (none, before)) (inl same) is = inl (λ q. same q ∙ before q)
AppendsPart-after old mid new path done piece rest whole (inr sets) (inl same) is =
    let front = front_of_whole done piece rest whole 0 is in
    inr (
      front.0,
      record {
        here = same path ∙ sets.here ∙ ap (λ (r : List ℕ). Some (bytes_at old path ++ r)) (sym (append-nil done) ∙ front.1);
        others = λ q other. same q ∙ sets.others q other;
      },
    )
AppendsPart-after old mid new path done piece rest whole before (inr (n, now)) is =
    let front = front_of_whole done piece rest whole n is in
    let sets = Sets-after old mid new path done (take n piece) before now in
    inr (front.0, record { here = sets.here ∙ ap (λ (r : List ℕ). Some (bytes_at old path ++ r)) front.1; others = sets.others })

-- a file that was made holds what was added to it
pub Sets-made : (old mid new : Paths) (path bytes : List ℕ) → Sets old mid path [] → AppendsWhole mid new path bytes → Sets old new path bytes
unfolding AppendsWhole
Sets-made old mid new path bytes made (inl (none, same)) = record {
  here = same path ∙ made.here ∙ ap Some (sym none);
  others = λ q other. same q ∙ made.others q other;
}
Sets-made old mid new path bytes made (inr sets) = record {
  here = sets.here ∙ ap (λ (o : Option (List ℕ)). Some (unwrap_or o [] ++ bytes)) made.here;
  others = λ q other. sets.others q other ∙ made.others q other;
}

pub Sets-made_part : (old mid new : Paths) (path whole : List ℕ) → Sets old mid path [] → AppendsPart mid new path whole → (n : ℕ) × Sets old new path (take n whole)
Sets-made_part old mid new path whole made (inl same) = (
  0,
  record {
    here = same path ∙ made.here;
    others = λ q other. same q ∙ made.others q other;
  },
)
Sets-made_part old mid new path whole made (inr (n, sets)) = (
  n,
  record {
    here = sets.here ∙ ap (λ (o : Option (List ℕ)). Some (unwrap_or o [] ++ take n whole)) made.here;
    others = λ q other. sets.others q other ∙ made.others q other;
  },
)
