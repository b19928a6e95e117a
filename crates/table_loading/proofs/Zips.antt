-- What holds of two lists, element by element.
use Rattle.table_loading.proofs.Prelude.{List, [], ◌∷◌, ◌++◌, map, AllByRecursion, AllZip}

pub zip_append : {A B : Type 0} (R : A → B → Type 0) (xs : List A) (ys : List B) (vs : List A) (ws : List B) → AllZip R xs ys → AllZip R vs ws → AllZip R (xs ++ vs) (ys ++ ws)
zip_append R [] [] vs ws first second = second
zip_append R [] (y ∷ ys) vs ws first second = absurd first
zip_append R (x ∷ xs) [] vs ws first second = absurd first
zip_append R (x ∷ xs) (y ∷ ys) vs ws first second = (first.0, zip_append R xs ys vs ws first.1 second)

-- of one more in each
pub zip_push : {A B : Type 0} (R : A → B → Type 0) (xs : List A) (ys : List B) (x : A) (y : B) → AllZip R xs ys → R x y → AllZip R (xs ++ x ∷ []) (ys ++ y ∷ [])
zip_push R xs ys x y all is = zip_append R xs ys (x ∷ []) (y ∷ []) all (is, tt)

-- less holds, given what holds of each of the first
pub zip_weaker : {A B : Type 0} (P : A → Type 0) (R S : A → B → Type 0) → ((x : A) (y : B) → P x → R x y → S x y) → (xs : List A) (ys : List B) → AllByRecursion P xs → AllZip R xs ys → AllZip S xs ys
zip_weaker P R S to [] [] all zip = tt
zip_weaker P R S to [] (y ∷ ys) all zip = absurd zip
zip_weaker P R S to (x ∷ xs) [] all zip = absurd zip
zip_weaker P R S to (x ∷ xs) (y ∷ ys) all zip = (to x y all.0 zip.0, zip_weaker P R S to xs ys all.1 zip.1)

-- what follows for each two
pub zip_as : {A B : Type 0} (R S : A → B → Type 0) → ((x : A) (y : B) → R x y → S x y) → (xs : List A) (ys : List B) → AllZip R xs ys → AllZip S xs ys
zip_as R S to [] [] zip = tt
zip_as R S to [] (y ∷ ys) zip = absurd zip
zip_as R S to (x ∷ xs) [] zip = absurd zip
zip_as R S to (x ∷ xs) (y ∷ ys) zip = (to x y zip.0, zip_as R S to xs ys zip.1)

-- what follows for each of the first, and for each of the second
pub zip_first : {A B : Type 0} (R : A → B → Type 0) (P : A → Type 0) → ((x : A) (y : B) → R x y → P x) → (xs : List A) (ys : List B) → AllZip R xs ys → AllByRecursion P xs
zip_first R P to [] [] zip = tt
zip_first R P to [] (y ∷ ys) zip = absurd zip
zip_first R P to (x ∷ xs) [] zip = absurd zip
zip_first R P to (x ∷ xs) (y ∷ ys) zip = (to x y zip.0, zip_first R P to xs ys zip.1)

pub zip_second : {A B : Type 0} (R : A → B → Type 0) (P : B → Type 0) → ((x : A) (y : B) → R x y → P y) → (xs : List A) (ys : List B) → AllZip R xs ys → AllByRecursion P ys
zip_second R P to [] [] zip = tt
zip_second R P to [] (y ∷ ys) zip = absurd zip
zip_second R P to (x ∷ xs) [] zip = absurd zip
zip_second R P to (x ∷ xs) (y ∷ ys) zip = (to x y zip.0, zip_second R P to xs ys zip.1)

-- two things hold of each
pub all_of_both : {A : Type 0} (P Q : A → Type 0) (xs : List A) → AllByRecursion P xs → AllByRecursion Q xs → AllByRecursion (λ x. P x × Q x) xs
all_of_both P Q [] first second = tt
all_of_both P Q (x ∷ xs) first second = ((first.0, second.0), all_of_both P Q xs first.1 second.1)

-- what holds of all of two lists holds of the second
pub all_behind : {A : Type 0} (P : A → Type 0) (xs ys : List A) → AllByRecursion P (xs ++ ys) → AllByRecursion P ys
all_behind P [] ys all = all
all_behind P (x ∷ xs) ys all = all_behind P xs ys all.1

-- what holds of mapped elements
pub all_mapped : {A B : Type 0} (f : A → B) (P : B → Type 0) (xs : List A) → AllByRecursion P (map f xs) → AllByRecursion (λ x. P (f x)) xs
all_mapped f P [] all = tt
all_mapped f P (x ∷ xs) all = (all.0, all_mapped f P xs all.1)
