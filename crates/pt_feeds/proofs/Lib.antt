mod Cutting
mod First
mod Same
