mod Cleared
