use Rattle.name_laws.proofs.Flat.{text_unbroken, leaf_unbroken, leaf_name, memory_name, element_way}
use Rattle.name_laws.proofs.laws.names_are_unbroken.Goals as goal

pub returns-clause-names : goal.returns-clause-names
returns-clause-names c = λ texts are id. text_unbroken texts are id

pub returns-clause-parts : goal.returns-clause-parts
returns-clause-parts c = λ texts are component way. leaf_unbroken texts are component way

pub returns-clause-leaves : goal.returns-clause-leaves
returns-clause-leaves c = λ texts design net are of x leaf e. leaf_name texts are design net of x leaf e

pub returns-clause-memories : goal.returns-clause-memories
returns-clause-memories c = λ texts design net are of m memory e. memory_name texts are design net of m memory e

pub returns-clause-ways : goal.returns-clause-ways
returns-clause-ways c = λ texts design net are of m k memory leaf e f. element_way texts are design net of m memory e k leaf f
