-- Several texts, one after another.
use Rattle.std.proofs.Common.{◌≡◌, ℕ, ◌≤◌, ◌+◌, List, [], ◌++◌, length, take, refl, sym, ◌∙◌, ap, subst, arith, min, Option, Bool, true, false}
use Rattle.std.proofs.Math.Seq.{take-append-add, take-length}
use Rattle.std.proofs.lemmas.List.{take_min, take-append-le}
use Rattle.std.specs.Io.KnownBytes.{Appends}
use Rattle.parts_io.specs.Causes.{Rose}
use Rattle.parts_io.specs.Bytes.{AppendsPart}
use Rattle.parts_io.proofs.Known.{appends_none, appends_more}
use Rattle.script_printer.specs.Puts.{Outlet, Put, Puts}
use Rattle.script_printer.specs.declared.printer.Printer.{Printer}

-- a flag is not both
clash : (v : Bool) → v ≡ false → v ≡ true → ⊥
clash v ok failed = cc

-- nothing was due
pub put_nothing : (a : Outlet) → Put a a []
put_nothing a = record {
  silent = λ _. refl;
  whole = λ _. appends_none a.text;
  part = (0, appends_none a.text);
  no_fault = λ _. refl;
  fault = λ ok failed. absurd (clash a.failed ok failed);
  later = omega arith;
}

-- after a failure nothing is written, whatever is due
pub put_silent : (a : Outlet) (due : List ℕ) → a.failed ≡ true → Put a a due
put_silent a due failed = record {
  silent = λ _. refl;
  whole = λ ok. absurd (clash a.failed ok failed);
  part = (0, appends_none a.text);
  no_fault = λ _. refl;
  fault = λ ok _. absurd (clash a.failed ok failed);
  later = omega arith;
}

-- a prefix of the front is a prefix of the whole
take_front : (k : ℕ) (xs ys : List ℕ) → take k xs ≡ take (min k (length xs)) (xs ++ ys)
take_front k xs ys = sym (take_min k xs) ∙ sym (take-append-le (min k (length xs)) xs ys (omega arith))

-- a part of the front is a part of the whole
part_front : (old new : Option (List ℕ)) (xs ys : List ℕ) → AppendsPart old new xs → AppendsPart old new (xs ++ ys)
part_front old new xs ys (k, h) = (min k (length xs), subst (λ t. Appends old new t) (take_front k xs ys) h)

-- the front, and then a prefix of the back
take_back : (j : ℕ) (xs ys : List ℕ) → xs ++ take j ys ≡ take (length xs + j) (xs ++ ys)
take_back j xs ys = sym (take-append-add xs ys j)

-- the front, and then a part of the back, is a part of the whole
part_back : (a b c : Option (List ℕ)) (xs ys : List ℕ) → Appends a b xs → AppendsPart b c ys → AppendsPart a c (xs ++ ys)
part_back a b c xs ys first (j, h) =
    (length xs + j, subst (λ t. Appends a c t) (take_back j xs ys) (appends_more a b c xs (take j ys) first h))

-- two prints, the second of which may be silent, by the flag between them
both_parts : (v : Bool) (a b c : Outlet) (xs ys : List ℕ) → b.failed ≡ v → Put a b xs → Put b c ys → AppendsPart a.text c.text (xs ++ ys)
both_parts true a b c xs ys is first second =
    subst (λ (o : Outlet). AppendsPart a.text o.text (xs ++ ys)) (sym (second.silent is)) (part_front a.text b.text xs ys first.part)
both_parts false a b c xs ys is first second =
    part_back a.text b.text c.text xs ys (first.whole is) second.part

-- where no write has failed at the end, none had between
still_good : (v : Bool) (b c : Outlet) (ys : List ℕ) → b.failed ≡ v → Put b c ys → c.failed ≡ false → b.failed ≡ false
still_good true b c ys is second ok = absurd (clash c.failed ok (ap (λ (o : Outlet). o.failed) (second.silent is) ∙ is))
still_good false b c ys is second ok = is

-- the failure of either raises the count of faults
both_faults : (v : Bool) (a b c : Outlet) (xs ys : List ℕ) → b.failed ≡ v → Put a b xs → Put b c ys → a.failed ≡ false → c.failed ≡ true → Rose a.faults c.faults
both_faults true a b c xs ys is first second ok failed = let h = first.fault ok is in let l = second.later in omega arith
both_faults false a b c xs ys is first second ok failed = let h = second.fault is failed in let l = first.later in omega arith

-- two texts, one after the other
pub put_both : (a b c : Outlet) (xs ys : List ℕ) → Put a b xs → Put b c ys → Put a c (xs ++ ys)
put_both a b c xs ys first second = record {
  silent = λ failed. let e = first.silent failed in second.silent (ap (λ (o : Outlet). o.failed) e ∙ failed) ∙ e;
  whole = λ ok. let b_ok = still_good b.failed b c ys refl second ok in appends_more a.text b.text c.text xs ys (first.whole b_ok) (second.whole ok);
  part = both_parts b.failed a b c xs ys refl first second;
  no_fault = λ ok. let b_ok = still_good b.failed b c ys refl second ok in second.no_fault ok ∙ first.no_fault b_ok;
  fault = λ ok failed. both_faults b.failed a b c xs ys refl first second ok failed;
  later = let l = first.later in let m = second.later in omega arith;
}

-- all of the text was written
pub put_all : (a b : Outlet) (due : List ℕ) → a.failed ≡ false → b.failed ≡ false → Appends a.text b.text due → b.faults ≡ a.faults → Put a b due
put_all a b due ok still written same = record {
  silent = λ failed. absurd (clash a.failed ok failed);
  whole = λ _. written;
  part = (length due, subst (λ t. Appends a.text b.text t) (sym (take-length due)) written);
  no_fault = λ _. same;
  fault = λ _ failed. absurd (clash b.failed still failed);
  later = omega arith;
}

-- a part of it was written, and the write failed
pub put_part : (a b : Outlet) (due : List ℕ) → a.failed ≡ false → b.failed ≡ true → AppendsPart a.text b.text due → Rose a.faults b.faults → a.faults ≤ b.faults → Put a b due
put_part a b due ok failed written rose later = record {
  silent = λ no. absurd (clash a.failed ok no);
  whole = λ no. absurd (clash b.failed no failed);
  part = written;
  no_fault = λ no. absurd (clash b.failed no failed);
  fault = λ _ _. rose;
  later = later;
}

-- what was due under another name
pub put_same : (a b : Outlet) (bytes due : List ℕ) → bytes ≡ due → Put a b bytes → Put a b due
put_same a b bytes due same put = subst (λ t. Put a b t) same put

-- nothing was due, to a printer
pub puts_nothing : {K : Type 0} (text : K → Option (List ℕ)) (faults : K → ℕ) (a : Printer K) → Puts text faults a a []
puts_nothing text faults a = record { same_sink = refl; put = put_nothing _ }

-- two texts, one after the other, to a printer
pub puts_both : {K : Type 0} (text : K → Option (List ℕ)) (faults : K → ℕ) (a b c : Printer K) (xs ys : List ℕ) → Puts text faults a b xs → Puts text faults b c ys → Puts text faults a c (xs ++ ys)
puts_both text faults a b c xs ys first second = record {
  same_sink = second.same_sink ∙ first.same_sink;
  put = put_both _ _ _ xs ys first.put second.put;
}

-- after a failure more may have been due
pub puts_stopped : {K : Type 0} (text : K → Option (List ℕ)) (faults : K → ℕ) (a b : Printer K) (xs ys : List ℕ) → Puts text faults a b xs → b.failed ≡ true → Puts text faults a b (xs ++ ys)
puts_stopped text faults a b xs ys first failed =
    let p = first.put in
    record {
      same_sink = first.same_sink;
      put = record {
        silent = p.silent;
        whole = λ ok. absurd (clash b.failed ok failed);
        part = part_front _ _ xs ys p.part;
        no_fault = p.no_fault;
        fault = p.fault;
        later = p.later;
      };
    }
