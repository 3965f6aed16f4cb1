-- What the first bytes of a file say of all of them.
use Rattle.std.proofs.Common.{◌≡◌, ◌<◌, ◌≤◌, ◌++◌, ◌∙◌, ℕ, List, Option, Some, None, refl, sym, ap, length, take, drop, min, unwrap_or, option_map, arith}
use Rattle.std.proofs.lemmas.List.{take-append-drop, length-take, take_all}
use Rattle.outside.specs.Counts.{Rose}
use Rattle.csv_catalog.specs.declared.judge.FileFault.{FileFault}
use Rattle.csv_catalog.specs.Records.{records_of}
use Rattle.csv_catalog.specs.FileFaults.{file_fault}

-- no first bytes are those of no file
pub none_found : (n : ℕ) (held : Option (List ℕ)) → None ≡ option_map (take n) held → None ≡ held
none_found n None e = refl
none_found n (Some bytes) e = cc e

-- fewer bytes than were asked for are all
pub short_found : (n : ℕ) (held : Option (List ℕ)) (front : List ℕ) → Some front ≡ option_map (take n) held → length front < n → Some front ≡ held
short_found n None front e short = cc e
short_found n (Some bytes) front e short =
    let is : front ≡ take n bytes = ap (λ o. unwrap_or o front) e in
    ap Some (is ∙ take_all n bytes (few (length bytes) (ap (λ (l : List ℕ). length l) is ∙ length-take n bytes)))
  where
    few : (m : ℕ) → length front ≡ min n m → m ≤ n
    few m h = omega arith

-- a fault of each file that begins with these bytes is that of the one that does
pub refused_found : (n count : ℕ) (held : Option (List ℕ)) (front : List ℕ) (f : FileFault) → Some front ≡ option_map (take n) held → ((rest : List ℕ) → file_fault count (records_of (front ++ rest)) ≡ Some f)
    → option_map (λ (bytes : List ℕ). file_fault count (records_of bytes)) held ≡ Some (Some f)
refused_found n count None front f e shown = cc e
refused_found n count (Some bytes) front f e shown =
    let is : front ≡ take n bytes = ap (λ o. unwrap_or o front) e in
    ap Some (ap (λ (l : List ℕ). file_fault count (records_of l)) (sym (take-append-drop n bytes) ∙ ap (λ (l : List ℕ). l ++ drop n bytes) (sym is)) ∙ shown (drop n bytes))

pub rose_later : (a b c : ℕ) → a ≤ b → Rose b c → Rose a c
rose_later a b c h k = omega arith
