-- What the environment says that connections are to show.
use Rattle.std.specs.Prelude.{◌≡◌, ◌≢◌, ◌⊎◌, ◌<◌, ◌≤◌, ℕ, List, [], ◌∷◌, ◌++◌, length, codes, Option, None, Some}
use Rattle.server_commands.specs.declared.credentials.Credentials.{Credentials}
use Rattle.cluster_inspection.specs.declared.credentials.CredentialFault.{CredentialFault}
use Rattle.cluster_inspection.specs.declared.credentials.CredentialFault.TheVariants as fault
use Rattle.cluster_inspection.specs.declared.credentials.Variable.{Variable}
use Rattle.cluster_inspection.specs.declared.password_file.PasswordFileFault.{PasswordFileFault}
use Rattle.cluster_inspection.specs.declared.password_file.PasswordFileFault.TheVariants as file
use Rattle.cluster_inspection.specs.declared.credentials.Variable.TheVariants as variable

-- ---- a variable's value

-- it is the text, which is not empty and no longer than an argument of a command may be
abbrev pub IsFit : (value text : List ℕ) → Type 0
IsFit value text = (text ≡ value) × (value ≢ []) × (length value ≤ 1048576)

abbrev pub IsUnfit : Variable → (value : List ℕ) → CredentialFault → Type 0
IsUnfit x value fault.Memory = Unit {0}
IsUnfit x value (fault.Empty y) = (y ≡ x) × (value ≡ [])
IsUnfit x value (fault.NoText y) = ⊥
IsUnfit x value (fault.TooLong y) = (y ≡ x) × (1048576 < length value)
IsUnfit x value (fault.File f) = ⊥
IsUnfit x value fault.UserAlone = ⊥

-- ---- both of them

-- a password with or without its user, or neither
abbrev pub IsPaired : (user password : Option (List ℕ)) → Option Credentials → Type 0
IsPaired user None shown = (user ≡ None) × (shown ≡ None)
IsPaired user (Some password) shown = shown ≡ Some (record { user = user; password = password })

abbrev pub IsUnpaired : (user password : Option (List ℕ)) → CredentialFault → Type 0
IsUnpaired user (Some password) f = ⊥
IsUnpaired None None f = ⊥
IsUnpaired (Some user) None f = f ≡ fault.UserAlone

-- ---- a file with a password

-- without the end of a line at its end, if there is one
abbrev pub IsLineOf : (bytes line : List ℕ) → Type 0
IsLineOf bytes line = (bytes ≡ line ++ 10 ∷ [])
    ⊎ ((line ≡ bytes) × ((before : List ℕ) → bytes ≡ before ++ 10 ∷ [] → ⊥))

abbrev pub IsPassword : (bytes text : List ℕ) → Type 0
IsPassword bytes text = IsLineOf bytes text × (text ≢ []) × (length text ≤ 1048576)

abbrev pub IsNoPassword : (bytes : List ℕ) → PasswordFileFault → Type 0
IsNoPassword bytes file.Memory = Unit {0}
IsNoPassword bytes file.Empty = IsLineOf bytes []
IsNoPassword bytes file.TooLong = (line : List ℕ) × IsLineOf bytes line × (1048576 < length line)
IsNoPassword bytes other = ⊥

-- out of memory is one fault, wherever it was met
abbrev pub fault_of_file : PasswordFileFault → CredentialFault
fault_of_file file.Memory = fault.Memory
fault_of_file f = fault.File f

-- ---- what is said of a fault

abbrev pub variable_text : Variable → List ℕ
variable_text variable.Auth = codes "RESHARD_AUTH"
variable_text variable.AuthFile = codes "RESHARD_AUTH_FILE"
variable_text variable.RedisCliAuth = codes "REDISCLI_AUTH"
variable_text variable.User = codes "RESHARD_USER"

abbrev pub file_fault_text : PasswordFileFault → List ℕ
file_fault_text file.Missing = codes "names no file"
file_fault_text file.Denied = codes "names a file that may not be read"
file_fault_text file.Directory = codes "names a directory"
file_fault_text file.Unread = codes "names a file that could not be read"
file_fault_text file.Empty = codes "names a file without a password"
file_fault_text file.TooLong = codes "names a file of more than 1048576 bytes"
file_fault_text file.Memory = codes "names a file for which there is no memory"

abbrev pub fault_text : CredentialFault → List ℕ
fault_text fault.Memory = codes "out of memory"
fault_text (fault.Empty x) = variable_text x ++ codes " is empty"
fault_text (fault.NoText x) = variable_text x ++ codes " is no UTF-8"
fault_text (fault.TooLong x) = variable_text x ++ codes " is longer than 1048576 bytes"
fault_text (fault.File f) = codes "RESHARD_AUTH_FILE " ++ file_fault_text f
fault_text fault.UserAlone = codes "RESHARD_USER is set, and RESHARD_AUTH is not"
