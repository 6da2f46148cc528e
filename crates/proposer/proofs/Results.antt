-- What holds of an Ok, of an Err or of a Some, by what is known of it.
use Rattle.std.proofs.Common.{◌≡◌, Result, Ok, Err, IfOk, OnErr, Option, Some, None, OnSome, sym, subst}

pub where_err : {A E : Type 0} {P : Type 0} (r : Result A E) → P → OnErr r P
where_err (Ok x) p = tt
where_err (Err e) p = p

pub where_ok : {A E : Type 0} (P : A → Type 0) (r : Result A E) (x : A) → IfOk r (λ y. y ≡ x) → P x → IfOk r P
where_ok P (Ok y) x is p = subst P (sym is) p
where_ok P (Err e) x is p = tt

pub ok_weaker : {A E : Type 0} (P Q : A → Type 0) (r : Result A E) → ((x : A) → P x → Q x) → IfOk r P → IfOk r Q
ok_weaker P Q (Ok x) weaker p = weaker x p
ok_weaker P Q (Err e) weaker p = tt

pub err_weaker : {A E : Type 0} (P Q : Type 0) (r : Result A E) → (P → Q) → OnErr r P → OnErr r Q
err_weaker P Q (Ok x) weaker p = tt
err_weaker P Q (Err e) weaker p = weaker p

pub some_weaker : {A : Type 0} (P Q : Type 0) (o : Option A) → (P → Q) → OnSome o P → OnSome o Q
some_weaker P Q (Some x) weaker p = weaker p
some_weaker P Q None weaker p = tt
